use Rattle.std.proofs.Common.{rules}
use Rattle.base.proofs.Puts.{put_front}
use Rattle.base.proofs.printed.print_front.Goals as goal

pub returns-clause-buffer : goal.returns-clause-buffer
returns-clause-buffer g c = put_front c.args.out.now _ (g.P.Printed.text c.args.piece.now) (search rules)
