-- One case more is counted, and its size is told.
use Rattle.std.proofs.Common.{arith}
use Rattle.cs_check.specs.Passing.Above.{size_in}
use Rattle.cs_check.proofs.OnChecking.Told.{case_taken, few_told}
use Rattle.cs_check.proofs.checking.entries.Entries.take_case.Goals as goal

pub returns : goal.returns
returns c = λ file lines n s t follows read few.
    let e = c.args.self.now in
    let told = few_told size_in lines in
    let count = t.counts.cases in
    case_taken file lines e t n s c.more-self.result c.args.size follows read (c.more-self.ensures (omega arith)) few
