use Rattle.omos_files.proofs.memory_files.MemoryFilesFileBox.write_all.Goals as goal

pub returns-clause-counts : goal.returns-clause-counts
returns-clause-counts c = c.self.invariant
