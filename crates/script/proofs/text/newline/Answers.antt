-- `script::text::newline` meets its contract.
-- Assumes nothing.
use Rattle.script.proofs.Reading.{newline_first}
use Rattle.script.proofs.text.newline.Goals as goal

pub returns : goal.returns
returns c = newline_first _ _ c.memchr.ensures
