-- `put_bytes` stores the bytes. The invariant: those before k are stored.
use borrow.Author.Rules.{rules}
use Rattle.utf8.proofs.Written.{no_byte_yet, byte_more}
use Rattle.utf8.proofs.put_bytes.Goals as goal

pub loop-k-init : goal.loop-k-init
loop-k-init g c = no_byte_yet c.args.bytes.now c.args.out.now c.args.at

pub loop-k-preserved : goal.loop-k-preserved
loop-k-preserved g c = search (byte_more, rules)
