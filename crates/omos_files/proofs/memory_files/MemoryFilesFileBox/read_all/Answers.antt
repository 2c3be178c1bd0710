use Rattle.omos_files.proofs.memory_files.MemoryFilesFileBox.read_all.Goals as goal

pub returns-in-Some-clause-counts : goal.returns-in-Some-clause-counts
returns-in-Some-clause-counts c = c.self.invariant
