-- `segments::census::Census::is_followed_by` meets its contract: each early return is a row that cannot follow, and at two others only the bytes requested are
-- left to test.
-- Assumes nothing.
use Rattle.std.proofs.Common.{not, ap, arith, ◌∙◌}
use Rattle.model.proofs.Choosing.{clash}
use Rattle.segments.proofs.Following.{refused, follows_free, follows_live}
use Rattle.segments.proofs.census.Census.is_followed_by.Goals as goal
use Rattle.segments.proofs.census.Census.is_followed_by.Goals.{then-s-self-via-then-s-self, then-s-self-via-else-s-self+then-s-lt1, then-s-self-via-else-s-self+else-s-lt1+then-granules-self, then-s-gt8-via-then-s-gt8, then-s-gt8-via-else-s-gt8+then-s-lt1-2}

pub returns-then-s-self : goal.returns-then-s-self
returns-then-s-self c config e g =
    elim c.then-s-self.branch [
      | then-s-self-via-then-s-self w ↦ refused config _ _ (λ f. omega arith)
      | then-s-self-via-else-s-self+then-s-lt1 w ↦ refused config _ _ (λ f. omega arith)
      | then-s-self-via-else-s-self+else-s-lt1+then-granules-self w ↦ refused config _ _ (λ f. omega arith)
    ]

pub returns-then-not-self : goal.returns-then-not-self
returns-then-not-self c config e g = follows_free config _ _ (omega arith) (omega arith) (omega arith) (omega arith) c.if-not-self.true

pub returns-else-not-self : goal.returns-else-not-self
returns-else-not-self c config e g =
    ap not c.if-not-self.false ∙ refused config c.args.self.now c.args.s (λ f. clash _ c.if-not-self.false (f.touch (omega arith)))

pub returns-then-s-gt8 : goal.returns-then-s-gt8
returns-then-s-gt8 c config e g =
    elim c.then-s-gt8.branch [
      | then-s-gt8-via-then-s-gt8 w ↦ refused config _ _ (λ f. omega arith)
      | then-s-gt8-via-else-s-gt8+then-s-lt1-2 w ↦ refused config _ _ (λ f. omega (arith, f.requested (λ z. omega arith)))
    ]

pub returns : goal.returns
returns c config e g =
    follows_live config _ _ (omega arith) (omega arith) (omega arith) c.granules_with.result (λ z. omega arith) (omega arith) (omega arith)
    (omega (arith, c.granules_with.ensures))
