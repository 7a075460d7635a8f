-- `script::session::Session::feed` meets its contract.
-- Assumes nothing.
use Rattle.std.proofs.Common.{rules, ◌+◌, ◌∙◌}
use Rattle.script.proofs.Lists.{rest_part}
use Rattle.script.proofs.Writing.{put_length}
use Rattle.script.proofs.Feeding.{feed_line, fed_done}
use Rattle.script.proofs.session.Session.feed.Goals as goal

pub loop-n-preserved : goal.loop-n-preserved
loop-n-preserved c =
    let l = c.loop-n in
    let done = c.answer.ensures in
    record {
      same_reference = done.same_reference ∙ l.invariant.same_reference;
      size = put_length done.put ∙ l.invariant.size;
      line = l.invariant.line;
      feeding =
          feed_line _ _ _ _ _ _ _ _ _ l.invariant.feeding c.in-Some.n (search rules) _ c.read_ended-command.ensures _ done.leaves _ _ done.put done.most _
          (rest_part l.rest.now (c.in-Some.n + 1));
    }

pub returns : goal.returns
returns c =
    let l = c.loop-n in
    fed_done _ _ _ _ _ l.self _ _ _ _ _ _ c.min-taken.ensures l.invariant.feeding (search rules) l.invariant.line _ c.hold.ensures _ (search rules)
