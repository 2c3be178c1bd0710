use Rattle.std.proofs.Common.{ap, ◌∙◌, ◌&&◌, ◌==◌, length, slice_index}
use Rattle.std.specs.Prelude.{nat_le, nat_lt}
use Rattle.elf_object.proofs.NameRuns.{name_in_front}
use Rattle.elf_object.proofs.names.begins_with_name.Goals as goal

pub returns : goal.returns
returns c =
    let bytes = c.args.bytes.now in
    c.ends_at.ensures
    ∙ ap (λ n. nat_lt n (length bytes) && (slice_index bytes n == 0) && nat_le 1 n && nat_le n 1024)
    c.name_length.ensures
    ∙ name_in_front bytes
