-- Parts that are fed one after the other, and the end of the script.
-- Assumes nothing.
use Rattle.std.proofs.Common.{◌≡◌, ℕ, ◌+◌, ◌-◌, ◌^◌, ◌<◌, ◌≤◌, List, [], ◌∷◌, ◌++◌, length, take, Option, refl, sym, ap, ◌∙◌, append_assoc, append-nil, length-append, subst, arith, drop, Some, None, IfSome, Result, Ok, Err, OnErr}
use Rattle.std.proofs.lemmas.List.{take-append-drop}
use Rattle.std.proofs.Math.Seq.{take_all, take-append_seam}
use Rattle.std.proofs.KnownBytes.{Consumes-nil, Appends-nil, Consumes-kept, Consumes-trans, Appends-kept, Appends-trans}
use Rattle.std.specs.Io.KnownBytes.{Keeps, Consumes, Appends, IsAtEnd}
use Rattle.script.specs.Machine.{started}
use Rattle.script.specs.Session.{output, joined}
use Rattle.script.specs.Promises.{FeedDone}
use Rattle.script.specs.Performed.{Feeds, Finishes}
use Rattle.script.proofs.Performed.{fed_answers, no_line_lost}
use Rattle.script.specs.declared.session.Session.{Session}
use Rattle.script.specs.declared.session.Fed.{Fed}
use Rattle.heapscript.specs.Steps.{Begins, AnswersPart, StopsPart, FeedsOn, AnswersInput, StopsInput, WritesEnd, StopsEnd}
use Rattle.heapscript.specs.Whole.{AnswersScript, StopsScript}
use Rattle.heapscript.proofs.Going.{Going, Going-none, Going-more, Going-stops}

-- A fact holds where there is an error, if it does anyhow.
pub OnErr-anyhow : {A E P : Type 0} (r : Result A E) → P → OnErr r P
OnErr-anyhow (Ok a) p = tt
OnErr-anyhow (Err e) p = p

-- Before any part nothing is fed.
pub FeedsOn-none : (s : Session) (words bytes : List ℕ) → FeedsOn s words bytes [] [] s words bytes
FeedsOn-none s words bytes = record { goes_on = λ parts rest p. (parts, refl, p) }

-- One more part is fed.
pub FeedsOn-more : (s : Session) (words bytes input text : List ℕ) (s₁ : Session) (words₁ bytes₁ part : List ℕ) → FeedsOn s words bytes input text s₁ words₁ bytes₁
    → (f : Feeds s₁ words₁ bytes₁ part)
    → FeedsOn s words bytes (input ++ part) (text ++ take f.out.written f.room_after) f.s_after f.words_after f.bytes_after
FeedsOn-more s words bytes input text s₁ words₁ bytes₁ part on f =
    record {
      goes_on = λ parts rest p.
          let w = on.goes_on (part ∷ parts) (take f.out.written f.room_after ++ rest) (f, rest, refl, p) in
          (w.0, w.1 ∙ sym (append_assoc input part (joined parts)), rw append_assoc w.2);
    }

-- What is taken of a part, where all of it is, is the part.
pub taken_whole : (part : List ℕ) (n : ℕ) → n ≡ length part → part ≡ take n part
taken_whole part n e = rw (e, take_all (length part) part (omega arith)) refl

-- A part of which all is taken is fed.
abbrev pub Feeds-whole : (s : Session) (w b part room : List ℕ) (out : Fed) (s' : Session) (w' b' room' : List ℕ) → (out.taken ≡ length part) × FeedDone s w b part room out s' w' b' room' → Feeds s w b part
Feeds-whole s w b part room out s' w' b' room' fed =
    record {
      input = part;
      room = room;
      out = out;
      takes = taken_whole part out.taken fed.0;
      s_after = s';
      words_after = w';
      bytes_after = b';
      room_after = room';
      done = fed.1;
    }

-- Reading failed.
pub StopsPart-read : (u u' h : Option (List ℕ)) (s : Session) (w b : List ℕ) → Keeps u u' → StopsPart u u' h h s w b
StopsPart-read u u' h s w b kept =
    record {
      part = [];
      text = [];
      read = Consumes-kept u u u' [] (Consumes-nil u) kept;
      written = Appends-nil h;
      begins = record { more = _; is = refl };
    }

-- Writing failed after so many bytes.
pub StopsPart-write : (u u' h h' : Option (List ℕ)) (s : Session) (w b part : List ℕ) (f : Feeds s w b part) (n : ℕ) → Consumes u u' part
    → Appends h h' (take n (take f.out.written f.room_after)) → StopsPart u u' h h' s w b
StopsPart-write u u' h h' s w b part f n read written =
    let text : List ℕ = take f.out.written f.room_after in
    record {
      part = part;
      text = take n text;
      read = read;
      written = written;
      begins = record { more = drop n text; is = sym (fed_answers s w b part f) ∙ sym (take-append-drop n text) };
    }

-- What stands before the rest of some bytes is written.
pub record Written (held holds : Option (List ℕ)) (bytes rest : List ℕ) : Type 0 where
  pub front : List ℕ
  pub cut : bytes ≡ front ++ rest
  pub written : Appends held holds front

-- At first nothing is.
pub Written-none : (held : Option (List ℕ)) (bytes : List ℕ) → Written held held bytes bytes
Written-none held bytes = record { front = []; cut = refl; written = Appends-nil held }

-- The first n bytes of the rest are written.
pub Written-more : (h₀ h h' : Option (List ℕ)) (bytes rest : List ℕ) (n : ℕ) → Written h₀ h bytes rest → Appends h h' (take n rest) → (rest' : List ℕ) → rest' ≡ drop n rest → Written h₀ h' bytes rest'
Written-more h₀ h h' bytes rest n before now rest' same =
    record {
      front = before.front ++ take n rest;
      cut = before.cut ∙ rw (same, append_assoc) (ap (λ l. before.front ++ l) (sym (take-append-drop n rest)));
      written = Appends-trans h₀ h h' before.front (take n rest) before.written now;
    }

-- A write that fails writes nothing.
pub Written-kept : (h₀ h h' : Option (List ℕ)) (bytes rest : List ℕ) → Written h₀ h bytes rest → Keeps h h' → Written h₀ h' bytes rest
Written-kept h₀ h h' bytes rest before kept =
    record { front = before.front; cut = before.cut; written = Appends-kept h₀ h h' before.front before.written kept }

-- What is written are some of the first bytes,
pub Written-first : (held holds : Option (List ℕ)) (bytes rest : List ℕ) → Written held holds bytes rest → (n : ℕ) × Appends held holds (take n bytes)
Written-first held holds bytes rest w =
    (length w.front, subst (λ l. Appends held holds l) (rw w.cut (sym (take-append_seam w.front rest))) w.written)

-- and all of them where no rest is left.
pub Written-all : (held holds : Option (List ℕ)) (bytes : List ℕ) → Written held holds bytes [] → Appends held holds bytes
Written-all held holds bytes w = subst (λ l. Appends held holds l) (sym (w.cut ∙ append-nil w.front)) w.written

-- What a loop over the parts keeps after k of them, none of which was empty.
pub record SoFar (unread still_unread held holds : Option (List ℕ)) (s : Session) (words bytes : List ℕ) (s' : Session) (words' bytes' : List ℕ) (k : ℕ) : Type 0 where
  pub input : List ℕ
  pub text : List ℕ
  pub read : Consumes unread still_unread input
  pub fed : FeedsOn s words bytes input text s' words' bytes'
  pub going : Going s words bytes input text s' words' bytes'
  pub written : Appends held holds text
  pub size : k ≤ length input

-- Before the first.
pub SoFar-none : (unread held : Option (List ℕ)) (s : Session) (words bytes : List ℕ) → SoFar unread unread held held s words bytes s words bytes 0
SoFar-none unread held s words bytes =
    record {
      input = [];
      text = [];
      read = Consumes-nil unread;
      fed = FeedsOn-none s words bytes;
      going = Going-none s words bytes;
      written = Appends-nil held;
      size = omega arith;
    }

module _ (u₀ u u' h₀ h h' : Option (List ℕ)) (s₀ : Session) (w₀ b₀ : List ℕ) (s : Session) (w b : List ℕ) (s' : Session) (w' b' : List ℕ) (k n : ℕ)
    (before : SoFar u₀ u h₀ h s₀ w₀ b₀ s w b k) (now : AnswersPart u u' h h' s w b s' w' b' n) where
  -- The input so far with the part, and the same of the text.
  more : FeedsOn s₀ w₀ b₀ (before.input ++ now.part) (before.text ++ take now.fed.out.written now.fed.room_after) s' w' b'
  more =
      rw (now.session, now.table, now.arena)
      (FeedsOn-more s₀ w₀ b₀ before.input before.text s w b now.part before.fed now.fed)

  -- One more part that is not empty.
  pub SoFar-more : 0 < n → SoFar u₀ u' h₀ h' s₀ w₀ b₀ s' w' b' (k + 1)
  SoFar-more one =
      record {
        input = before.input ++ now.part;
        text = before.text ++ take now.fed.out.written now.fed.room_after;
        read = Consumes-trans u₀ u u' before.input now.part before.read now.read;
        fed = more;
        going =
            rw (now.session, now.table, now.arena)
            (Going-more s₀ w₀ b₀ before.input before.text s w b before.going now.part now.fed);
        written = Appends-trans h₀ h h' before.text (take now.fed.out.written now.fed.room_after) before.written now.written;
        size = simp length-append (omega (arith, before.size, now.size, one));
      }

  -- The empty part, at the end of the input.
  pub AnswersInput-end : n ≡ 0 → AnswersInput u₀ u' h₀ h' s₀ w₀ b₀ s' w' b'
  AnswersInput-end none =
      record {
        input = before.input ++ now.part;
        text = before.text ++ take now.fed.out.written now.fed.room_after;
        read = Consumes-trans u₀ u u' before.input now.part before.read now.read;
        whole = λ _. now.end none;
        fed = more;
        written = Appends-trans h₀ h h' before.text (take now.fed.out.written now.fed.room_after) before.written now.written;
      }

-- A part after which reading or writing failed.
pub StopsInput-end : (u₀ u u' h₀ h h' : Option (List ℕ)) (s₀ : Session) (w₀ b₀ : List ℕ) (s : Session) (w b : List ℕ) (k : ℕ) → SoFar u₀ u h₀ h s₀ w₀ b₀ s w b k
    → StopsPart u u' h h' s w b → StopsInput u₀ u' h₀ h' s₀ w₀ b₀
StopsInput-end u₀ u u' h₀ h h' s₀ w₀ b₀ s w b k before now =
    record {
      input = before.input ++ now.part;
      text = before.text ++ now.text;
      read = Consumes-trans u₀ u u' before.input now.part before.read now.read;
      written = Appends-trans h₀ h h' before.text now.text before.written now.written;
      begins = Going-stops s₀ w₀ b₀ before.input before.text s w b before.going now.part now.text now.begins;
    }

-- The text for all parts and the end is the output.
input_answered : (s₀ : Session) (w₀ b₀ : List ℕ) (s : Session) (w b input text : List ℕ) → s₀.script ≡ started → s₀.held.count ≡ 0 → FeedsOn s₀ w₀ b₀ input text s w b
    → (f : Finishes s w b) → text ++ take f.out f.room_after ≡ output w₀ b₀ input
input_answered s₀ w₀ b₀ s w b input text new none fed f =
    let end : List ℕ = take f.out f.room_after in
    let all = fed.goes_on [] end (f, refl) in
    let whole : joined all.0 ≡ input = all.1 ∙ append-nil input in
    no_line_lost s₀ new none w₀ b₀ all.0 (text ++ end) all.2 ∙ ap (λ x. output w₀ b₀ x) whole

-- The input from a session's start, and the end.
pub AnswersScript-end : (u u' h₀ h h' : Option (List ℕ)) (s₀ : Session) (w₀ b₀ : List ℕ) (s : Session) (w b : List ℕ) → s₀.script ≡ started → s₀.held.count ≡ 0
    → AnswersInput u u' h₀ h s₀ w₀ b₀ s w b → WritesEnd h h' s w b → AnswersScript u u' h₀ h' w₀ b₀
AnswersScript-end u u' h₀ h h' s₀ w₀ b₀ s w b new none body end =
    let text : List ℕ = take end.finished.out end.finished.room_after in
    record {
      input = body.input;
      read = body.read;
      written =
          subst (λ x. Appends h₀ h' x) (input_answered s₀ w₀ b₀ s w b body.input body.text new none body.fed end.finished)
          (Appends-trans h₀ h h' body.text text body.written end.written);
      whole = body.whole;
    }

-- What is a beginning of the output for what was read, whatever comes after that, is one of the output for the reader's whole input.
at_input : (u u' : Option (List ℕ)) (w b input text : List ℕ) → Consumes u u' input → ((rest : List ℕ) → Begins text (output w b (input ++ rest)))
    → IfSome u (λ xs. length xs < 2 ^ 64 - 1 → Begins text (output w b xs))
at_input None u' w b input text p f = tt
at_input (Some xs) None w b input text p f = absurd p
at_input (Some xs) (Some ys) w b input text p f =
    λ short. subst (λ x. Begins text (output w b x)) (sym p) (f ys)

-- So is a beginning of the output for an input that was read to its end.
at_end : (u u' : Option (List ℕ)) (w b input text : List ℕ) → Consumes u u' input → (length input < 2 ^ 64 - 1 → IsAtEnd u') → Begins text (output w b input)
    → IfSome u (λ xs. length xs < 2 ^ 64 - 1 → Begins text (output w b xs))
at_end None u' w b input text p e f = tt
at_end (Some xs) None w b input text p e f = absurd p
at_end (Some xs) (Some ys) w b input text p e f =
    λ short.
    let n : length xs ≡ length (input ++ ys) = ap length p in
    let none : ys ≡ [] = e (omega (arith, n, length-append input ys, short)) in
    let same : input ≡ xs = sym (p ∙ ap (λ l. input ++ l) none ∙ append-nil input) in
    subst (λ x. Begins text (output w b x)) same f

-- Reading or writing failed before the end.
pub StopsScript-input : (u u' h h' : Option (List ℕ)) (s : Session) (w b : List ℕ) → s.script ≡ started → s.held.count ≡ 0 → StopsInput u u' h h' s w b → StopsScript u h h' w b
StopsScript-input u u' h h' s w b new none stops =
    record {
      text = stops.text;
      written = stops.written;
      begins = at_input u u' w b stops.input stops.text stops.read (stops.begins new none);
    }

-- Writing what comes at the end failed.
pub StopsScript-end : (u u' h₀ h h' : Option (List ℕ)) (s₀ : Session) (w₀ b₀ : List ℕ) (s : Session) (w b : List ℕ) → s₀.script ≡ started → s₀.held.count ≡ 0
    → AnswersInput u u' h₀ h s₀ w₀ b₀ s w b → StopsEnd h h' s w b → StopsScript u h₀ h' w₀ b₀
StopsScript-end u u' h₀ h h' s₀ w₀ b₀ s w b new none body end =
    let text : List ℕ = take end.finished.out end.finished.room_after in
    let cut : List ℕ = take end.count text in
    let same : output w₀ b₀ body.input ≡ body.text ++ text = sym (input_answered s₀ w₀ b₀ s w b body.input body.text new none body.fed end.finished) in
    let parts : body.text ++ text ≡ (body.text ++ cut) ++ drop end.count text =
    ap (λ x. body.text ++ x) (sym (take-append-drop end.count text)) ∙ sym (append_assoc body.text cut (drop end.count text)) in
    record {
      text = body.text ++ cut;
      written = Appends-trans h₀ h h' body.text cut body.written end.written;
      begins = at_end u u' w₀ b₀ body.input (body.text ++ cut) body.read body.whole (record { more = drop end.count text; is = same ∙ parts });
    }
