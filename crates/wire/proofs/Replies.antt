-- The eight numbers of a call, read, and the four of an answer, written: one after the other.
use mathlib.Core.Path.{◌≡◌, refl}
use mathlib.Core.List.{List}
use Prim.Native.Nat.{ℕ}
use Rattle.wire.specs.Numbers.{number_at}
use Rattle.wire.specs.Messages.{head_of, short, refused_reply}
use Rattle.wire.specs.declared.head.Head.{Head}
use Rattle.wire.specs.declared.reply.Reply.{Reply}
use Rattle.answers.specs.Answers.{told}
use Rattle.answers.specs.declared.refusal.Refusal.{Refusal}
use Rattle.answers.specs.declared.refusal.Told.{Told}

pub head-all : (bytes : List ℕ) {kind x y z w room first second : ℕ} → kind ≡ number_at bytes 0 → x ≡ number_at bytes 1 → y ≡ number_at bytes 2
    → z ≡ number_at bytes 3 → w ≡ number_at bytes 4 → room ≡ number_at bytes 5 → first ≡ number_at bytes 6 → second ≡ number_at bytes 7
    → ◌≡◌ {A = Head} (record { kind = kind; x = x; y = y; z = z; w = w; room = room; first = first; second = second }) (head_of bytes)
head-all bytes e₀ e₁ e₂ e₃ e₄ e₅ e₆ e₇ = rw (e₀, e₁, e₂, e₃, e₄, e₅, e₆, e₇) refl

pub refused_all : (r : Refusal) (t : Told) {place : ℕ} → t ≡ told r → place ≡ short t.place
    → ◌≡◌ {A = Reply} (record { refusal = t.number; value = place; second = 0; third = 0 }) (refused_reply r)
refused_all r t e p = rw (p, e) refl
