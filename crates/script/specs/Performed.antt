-- A script as the functions perform it, of each of which nothing is said but its promise.
-- Assumes nothing.
use Rattle.std.specs.Prelude.{◌≡◌, List, [], ◌∷◌, ◌++◌, ℕ, take, Some}
use Rattle.script.specs.Machine.{started}
use Rattle.script.specs.Session.{output, joined}
use Rattle.script.specs.Promises.{FeedDone, FinishDone}
use Rattle.script.specs.declared.session.Session.{Session}
use Rattle.script.specs.declared.session.Fed.{Fed}

-- `feed` is handed some input and a buffer, of any length; the part is what it takes of the input.
pub record Feeds (s : Session) (words bytes part : List ℕ) : Type 0 where
  pub input : List ℕ
  pub room : List ℕ
  pub out : Fed
  pub takes : part ≡ take out.taken input
  pub s_after : Session
  pub words_after : List ℕ
  pub bytes_after : List ℕ
  pub room_after : List ℕ
  pub done : FeedDone s words bytes input room out s_after words_after bytes_after room_after

-- `finish` is handed a buffer that has room, and says how many bytes it has put there.
pub record Finishes (s : Session) (words bytes : List ℕ) : Type 0 where
  pub room : List ℕ
  pub out : ℕ
  pub words_after : List ℕ
  pub bytes_after : List ℕ
  pub room_after : List ℕ
  pub done : FinishDone s words bytes room (Some out) words_after bytes_after room_after

-- The parts are fed one after the other, each to what the one before left, and then the script is finished. What was put into the buffers is written.
abbrev pub Performed : Session → List ℕ → List ℕ → List (List ℕ) → List ℕ → Type 0
Performed s words bytes [] text = (f : Finishes s words bytes) × (text ≡ take f.out f.room_after)
Performed s words bytes (part ∷ parts) text =
    (f : Feeds s words bytes part) × (rest : List ℕ)
    × (text ≡ take f.out.written f.room_after ++ rest)
    × Performed f.s_after f.words_after f.bytes_after parts rest

-- No line is lost or answered twice: from a session as `start` answers it, whatever the input and however it is cut into parts, what is written is the output for the whole input.
abbrev pub NoLineLost : Type 0
NoLineLost =
    (s : Session) → s.script ≡ started → s.held.count ≡ 0
    → (words bytes : List ℕ) (parts : List (List ℕ)) (text : List ℕ) → Performed s words bytes parts text → text ≡ output words bytes (joined parts)
