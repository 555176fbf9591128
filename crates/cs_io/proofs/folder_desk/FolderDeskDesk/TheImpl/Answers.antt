-- Its reading says what a desk's does, as it tells no files and is never steady.
use Rattle.std.proofs.Common.{arith, rules}
use Rattle.cs_io.proofs.folder_desk.FolderDeskDesk.TheImpl.Goals as goal

pub read-tells : goal.read-tells
read-tells g c = record {
  bytes = search rules;
  within = c.ensures.within;
  missing = c.ensures.never_missing;
  fault = λ failed. let counted = c.ensures.fault failed in omega arith;
  no_fault = c.ensures.no_fault;
  faults_never_fall = c.ensures.faults_never_fall;
  steady = λ steady. cc;
  same_files = search rules;
  same_steady = search rules;
}
