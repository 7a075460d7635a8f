-- What the functions answer and leave, by their promises alone, is what demand 3 speaks of.
-- Assumes nothing.
use mathlib.Core.Path.{◌≡◌, refl, sym, ap, ◌∙◌}
use mathlib.Core.List.{List, [], ◌∷◌}
use Rattle.model.specs.Quantities.{Config}
use Rattle.model.specs.Rules.{init_config}
use Rattle.model.specs.Run.{after, history}
use Rattle.heap.specs.Stored.{Stored, handed}
use Rattle.heap.specs.Calls.{after_init}
use Rattle.heap.specs.Calls as calls
use Rattle.guarantee.specs.Lists.{Call, alloc, alloc_aligned, free, realloc, block_size, totals, holding, Answer, execute}
use Rattle.guarantee.specs.Guarantee.{state_after, stored_after, Served, Guaranteed}
use Rattle.guarantee.specs.Performed.{Promised, Entry, Performed, calls_of, Demand3Performed}
use Rattle.guarantee.proofs.Guarantee.{guarantee}

-- One call: the promise is what `execute` says.
pub promised : (s : Stored) (k : Call) (r : Answer k) (t : Stored) → Promised s k r t → (r ≡ (execute s k).0) × (t ≡ (execute s k).1)
promised s (alloc arena o n) r t d = (d.1.answer, λ i. record { heap = d.1.heap i; words = d.1.table i })
promised s (alloc_aligned arena o n a) r t d = (d.1.answer, λ i. record { heap = d.1.heap i; words = d.1.table i })
promised s (free arena o x) r t d = (d.1.answer, λ i. record { heap = d.1.heap i; words = d.1.table i })
promised s (realloc arena o x n) r t d = (d.1.answer, λ i. record { heap = d.1.heap i; words = d.1.table i })
promised s (block_size o x) r t d = (d.0.answer, d.1)
promised s totals r t d = (d.0.answer, d.1)
promised s (holding o) r t d = (d.0.answer, d.1)

-- A list of calls.
pub performed : (s : Stored) (es : List Entry) (t : Stored) → Performed s es t → (es ≡ history execute s (calls_of es)) × (t ≡ after execute s (calls_of es))
performed s [] t d = (refl, d)
performed s (e ∷ es) t d =
    let one : (e.1 ≡ (execute s e.0).0) × (d.0 ≡ (execute s e.0).1) = promised s e.0 e.1 d.0 d.1 in
    let more : (es ≡ history execute d.0 (calls_of es)) × (t ≡ after execute d.0 (calls_of es)) = performed d.0 es t d.2 in
    let answers : es ≡ history execute (execute s e.0).1 (calls_of es) = more.0 ∙ ap (λ (u : Stored). history execute u (calls_of es)) one.1 in
    ((λ i. (e.0, one.0 i) ∷ answers i), more.1 ∙ ap (λ (u : Stored). after execute u (calls_of es)) one.1)

-- Demand 3 holds of what the functions do.
pub performed_guaranteed : Demand3Performed
performed_guaranteed arena words p out arena_left words_left d done es t run =
    let c : Config = init_config arena words p in
    let made : handed out.heap words_left ≡ after_init arena words p = λ i. record { heap = d.heap i; words = d.table i } in
    let g : Guaranteed c (after_init arena words p) (calls_of es) = guarantee arena words p (sym d.answer ∙ done) (calls_of es) in
    let is : (es ≡ history execute (handed out.heap words_left) (calls_of es)) × (t ≡ after execute (handed out.heap words_left) (calls_of es)) =
    performed (handed out.heap words_left) es t run in
    let left : t ≡ stored_after (after_init arena words p) (calls_of es) = is.1 ∙ ap (λ (u : Stored). after execute u (calls_of es)) made in
    record {
      answers = is.0 ∙ ap (λ (u : Stored). history execute u (calls_of es)) made ∙ g.answers;
      stored = left ∙ g.stored;
      guaranteed = g;
      served = λ bytes o n a e r u k.
          let s : Served c (state_after c (calls_of es)) n a (calls.alloc_aligned (stored_after (after_init arena words p) (calls_of es)) bytes o n a) = g.served bytes o n a e in
          (s.0, s.1, k.1.answer ∙ ap (λ (w : Stored). calls.alloc_aligned w bytes o n a) left ∙ s.2);
    }
