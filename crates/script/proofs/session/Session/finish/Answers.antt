-- `script::session::Session::finish` meets its contract.
-- Assumes nothing.
use Rattle.std.proofs.Common.{rules, arith}
use Rattle.script.proofs.Writing.{put_length}
use Rattle.script.proofs.Finishing.{finish_done}
use Rattle.script.proofs.session.Session.finish.Goals as goal

pub put_closing-requires : goal.put_closing-requires
put_closing-requires c =
    let a = c.answer_held.ensures in omega (arith, a.most, put_length a.put)

pub returns : goal.returns
returns c =
    let a = c.answer_held in
    let p = c.put_closing.ensures in
    finish_done _ _ _ _ (omega arith) a.new.self _ _ a.ensures.leaves _ _ a.ensures.put _ _ (p.put a.new.arena) (omega (arith, a.ensures.most, p.most)) _ (search rules)
