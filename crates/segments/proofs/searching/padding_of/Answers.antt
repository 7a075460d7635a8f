-- `segments::searching::padding_of` meets its contract.
-- Assumes nothing.
use Rattle.segments.proofs.Padding.{padding_two}
use Rattle.segments.proofs.searching.padding_of.Goals as goal

pub returns-clause-answer : goal.returns-clause-answer
returns-clause-answer c = padding_two c.args.unit c.args.past c.args.start c.requires.past
