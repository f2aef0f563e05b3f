-- `until` counts the bytes before the first of a value. The invariant: those passed and those left to pass are as many as there are.
use borrow.Author.Rules.{rules}
use Rattle.sheettext.proofs.Parts.{passed, found, ended}
use Rattle.sheettext.proofs.until.Goals as goal

pub returns-then-found-byte : goal.returns-then-found-byte
returns-then-found-byte c = search (found, rules)

pub loop-k-preserved : goal.loop-k-preserved
loop-k-preserved c = search (passed, rules)

pub returns : goal.returns
returns c = search (ended, rules)
