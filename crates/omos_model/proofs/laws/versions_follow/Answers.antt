use Rattle.omos_model.proofs.Spaces.{next_version_law, old_versions_law}
use Rattle.omos_model.proofs.laws.versions_follow.Goals as goal

pub returns-clause-next : goal.returns-clause-next
returns-clause-next c = next_version_law

pub returns-clause-old : goal.returns-clause-old
returns-clause-old c = old_versions_law
