use Rattle.std.proofs.Common.{◌≡◌, drop}
use Rattle.cs_io.specs.Desk.{file_named}
use Rattle.cs_io.specs.MemoryDesk.{stored}
use Rattle.cs_io.proofs.memory_desk.find.Given as goal

-- the files that were passed over have another name
abbrev pub invariant-loop-file : goal.invariant-loop-file
invariant-loop-file l = file_named (stored l.files) l.name ≡ file_named (stored (drop l.file-index l.files)) l.name
