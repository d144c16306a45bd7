-- No two answers of this crate mean the same: from what an answer means the answer is found again. Assumes nothing.
use mathlib.Core.Path.{◌≡◌, refl, sym, ap, ◌∙◌}
use mathlib.Core.List.{[], ◌∷◌}
use Prim.Native.Nat.{ℕ}
use lib.IntN.{ℤ}
use Rattle.refusal.specs.Paper.{Paper, gives, more, refused, Got, got}
use Rattle.refusal.specs.Meaning.{named_by}
use Rattle.refusal.proofs.Laws.{named_by_its_number}
use Rattle.varint.specs.Meaning.{number_meaning, uvarint_meaning, varint_meaning, written_meaning}
use Rattle.std.specs.Prelude.{List, Result, Ok, Err}
use Rattle.refusal.specs.declared.Unread.{Unread}
use Rattle.refusal.specs.declared.Unread.TheVariants as u
use Rattle.varint.specs.declared.Varint.{Varint}
use Rattle.varint.specs.declared.ShortOutput.{ShortOutput}

unread_of : ℕ → List ℕ → Unread
unread_of n [] = u.Beyond
unread_of n (p ∷ ps) = u.Refused (named_by n p)

module _ {A : Type 0} where
  number_of : Paper (Got A) → Result (Varint A) Unread
  number_of (gives (got value next)) = Ok (record { value = value; next = next })
  number_of more = Err u.Incomplete
  number_of (refused n vs) = Err (unread_of n vs)

  number_again : (a : Result (Varint A) Unread) → number_of (number_meaning a) ≡ a
  unfolding number_of unread_of
  number_again (Ok v) = refl
  number_again (Err u.Incomplete) = refl
  number_again (Err (u.Refused r)) = ap (λ y. Err (u.Refused y)) (named_by_its_number r)
  number_again (Err u.Beyond) = refl

  number_injective : (a b : Result (Varint A) Unread) → number_meaning a ≡ number_meaning b → a ≡ b
  number_injective a b e = sym (number_again a) ∙ ap number_of e ∙ number_again b

pub uvarint_injective : (a b : Result (Varint ℕ) Unread) → uvarint_meaning a ≡ uvarint_meaning b → a ≡ b
uvarint_injective a b e = number_injective a b e

pub varint_injective : (a b : Result (Varint ℤ) Unread) → varint_meaning a ≡ varint_meaning b → a ≡ b
varint_injective a b e = number_injective a b e

written_of : Paper ℕ → Result ℕ ShortOutput
written_of (gives count) = Ok count
written_of more = Err (record {})
written_of (refused n vs) = Err (record {})

written_again : (a : Result ℕ ShortOutput) → written_of (written_meaning a) ≡ a
unfolding written_of
written_again (Ok count) = refl
written_again (Err e) = refl

pub written_injective : (a b : Result ℕ ShortOutput) → written_meaning a ≡ written_meaning b → a ≡ b
written_injective a b e = sym (written_again a) ∙ ap written_of e ∙ written_again b
