-- All that the scan and the stream need of a token reader, in either format. Assumes nothing.
use mathlib.Core.Path.{◌≡◌, refl, sym, ap, ◌∙◌}
use mathlib.Core.List.{List, [], ◌∷◌, ◌++◌}
use Prim.Native.Nat.{ℕ, ◌+◌, ◌≤◌, ◌<◌}
use native.Mathlib.Omega.{arith}
use lib.ListN.{length, get_or}
use borrow.Author.Tests.{le-ltb}
use Rattle.refusal.specs.Numbers.{bad_byte, unknown_word}
use Rattle.refusal.specs.Paper.{Paper, gives, more, refused, Spot, spot}
use Rattle.refusal.specs.declared.Format.{Format}
use Rattle.refusal.specs.declared.Format.TheVariants.{Binary, Text}
use Rattle.token.specs.declared.Token.{Token}
use Rattle.token.specs.declared.Kind.{Kind}
use Rattle.token.specs.Meaning.{kinds_of}
use Rattle.token.specs.Marks.{mark_of}
use Rattle.token.proofs.Sound.{Sound}
use Rattle.binary.specs.Binary.{marked}
use Rattle.binary.proofs.Laws as bin
use Rattle.binary.proofs.Callers as bc
use Rattle.blanks.specs.Skip.{skip_from}
use Rattle.blanks.proofs.Laws as blank
use Rattle.token.specs.Digits.{is_digit}
use Rattle.number.specs.Bytes.{is_sign}
use Rattle.words.specs.Plain.{is_letter}
use Rattle.text.specs.Text.{started, started_at, text_from}
use Rattle.text.proofs.Laws.{nothing_started, something_started}
use Rattle.text.proofs.Callers as tc
use Rattle.lexer.specs.Lexer.{token_from, token_at, kind_at, skip_of, Mark, list_opens, list_closes, map_opens, map_closes, attributes_open, attributes_close, equals_stands, separator_stands}
use Rattle.lexer.proofs.Only.{binary_only, text_only}

-- the token at a place starts behind what is ignored there, and ends within the bytes
pub sound : (f : Format) (s : List ℕ) (at : ℕ) → Sound (length s) (skip_of f s at) (token_from f s at)
unfolding token_from skip_of
sound Binary s at = bc.sound s at
sound Text s at = tc.sound s at

spotted : (l q : ℕ) (p : Paper (Spot Token)) → Sound l q p → (k : Kind) (a n : ℕ) → kinds_of p ≡ gives (spot k a n) → (a ≡ q) × (q < n) × (n ≤ l)
spotted l q (gives (spot t f m)) x k a n e = let y : f ≡ a = cc in let z : m ≡ n = cc in (omega (arith, x.0), omega (arith, x.1), omega (arith, x.2))
spotted l q more x k a n e = let z : ◌≡◌ {A = ℕ} 0 1 = cc in absurd (omega arith)
spotted l q (refused m vs) x k a n e = let z : ◌≡◌ {A = ℕ} 0 1 = cc in absurd (omega arith)

unread : (l q : ℕ) (p : Paper (Spot Token)) → Sound l q p → (m : ℕ) (vs : List ℕ) → kinds_of p ≡ refused m vs → (bad_byte ≤ m) × (m ≤ unknown_word) × (vs ≡ q ∷ [])
unread l q (gives (spot t f n)) x m vs e = let z : ◌≡◌ {A = ℕ} 0 1 = cc in absurd (omega arith)
unread l q more x m vs e = let z : ◌≡◌ {A = ℕ} 0 1 = cc in absurd (omega arith)
unread l q (refused n ws) x m vs e =
    let y : n ≡ m = cc in let z : ws ≡ vs = cc in (omega (arith, x.0), omega (arith, x.1), sym z ∙ x.2)

-- ---- what is ignored

pub skip_grows : (f : Format) (s : List ℕ) (at : ℕ) → at ≤ skip_of f s at
unfolding skip_of
skip_grows Binary s at = omega arith
skip_grows Text s at = blank.skip_forward s at

pub skip_within : (f : Format) (s : List ℕ) (at : ℕ) → at ≤ length s → skip_of f s at ≤ length s
unfolding skip_of
skip_within Binary s at h = h
skip_within Text s at h = blank.skip_within s at h

pub skip_again : (f : Format) (s : List ℕ) (at : ℕ) → skip_of f s (skip_of f s at) ≡ skip_of f s at
unfolding skip_of
skip_again Binary s at = refl
skip_again Text s at = blank.skip_again s at

pub skip_same : (f : Format) (s : List ℕ) (at : ℕ) → kind_at f s (skip_of f s at) ≡ kind_at f s at
unfolding kind_at token_from skip_of text_from
skip_same Binary s at = refl
skip_same Text s at = ap (λ (p : ℕ). kinds_of (started_at s p)) (blank.skip_again s at)

ended : (f : Format) (s : List ℕ) (at : ℕ) → length s ≤ at → token_from f s at ≡ more
unfolding token_from text_from
ended Binary s at h = bin.ended s at h
ended Text s at h = nothing_started s (skip_from s at) (omega (arith, blank.skip_forward s at))

module _ (f : Format) (s : List ℕ) (at : ℕ) where
  -- ---- tokens and refusals

  module _ {k : Kind} {a n : ℕ} (e : kind_at f s at ≡ gives (spot k a n)) where
    found : (a ≡ skip_of f s at) × (skip_of f s at < n) × (n ≤ length s)
    unfolding kind_at
    found = spotted (length s) (skip_of f s at) (token_from f s at) (sound f s at) k a n e

    pub grows : (at ≤ a) × (a < n) × (n ≤ length s)
    grows = let x = found in (omega (arith, skip_grows f s at), omega arith, x.2)

    pub first_is : a ≡ skip_of f s at
    first_is = found.0

  pub refused_is : {m : ℕ} {vs : List ℕ} → kind_at f s at ≡ refused m vs → (bad_byte ≤ m) × (m ≤ unknown_word) × (vs ≡ skip_of f s at ∷ [])
  unfolding kind_at
  refused_is {m} {vs} e = unread (length s) (skip_of f s at) (token_from f s at) (sound f s at) m vs e

  pub ends : length s ≤ at → kind_at f s at ≡ more
  unfolding kind_at
  ends h = ap kinds_of (ended f s at h)

-- ---- marks

module _ (s : List ℕ) (p : ℕ) where
  binary_mark : {b : ℕ} {k : Kind} → Mark b k → kinds_of (marked s p b) ≡ gives (spot k p (p + 1))
  unfolding marked mark_of
  binary_mark list_opens = refl
  binary_mark list_closes = refl
  binary_mark map_opens = refl
  binary_mark map_closes = refl
  binary_mark attributes_open = refl
  binary_mark attributes_close = refl
  binary_mark equals_stands = refl
  binary_mark separator_stands = refl

  text_mark : {b : ℕ} {k : Kind} → Mark b k → kinds_of (started s p b) ≡ gives (spot k p (p + 1))
  unfolding started mark_of is_digit is_sign is_letter
  text_mark list_opens = refl
  text_mark list_closes = refl
  text_mark map_opens = refl
  text_mark map_closes = refl
  text_mark attributes_open = refl
  text_mark attributes_close = refl
  text_mark equals_stands = refl
  text_mark separator_stands = refl

pub mark_here : (f : Format) (s : List ℕ) (p : ℕ) {b : ℕ} {k : Kind} → Mark b k → p < length s → skip_of f s p ≡ p → get_or s p 0 ≡ b → kind_at f s p ≡ gives (spot k p (p + 1))
unfolding kind_at token_from skip_of text_from
mark_here Binary s p m h e g = ap kinds_of (bin.inside s p h ∙ ap (marked s p) g) ∙ binary_mark s p m
mark_here Text s p m h e g = ap kinds_of (ap (started_at s) e ∙ something_started s p h ∙ ap (started s p) g) ∙ text_mark s p m

at_first : (f : Format) (s : List ℕ) (q b : ℕ) (k : Kind) (a n : ℕ) → Mark b k → skip_of f s q ≡ q → q < length s → kind_at f s q ≡ gives (spot k a n) → get_or s q 0 ≡ b
unfolding kind_at token_from skip_of text_from
at_first Binary s q b k a n m z h y = binary_only s q (get_or s q 0) b k a n m (sym (ap kinds_of (bin.inside s q h)) ∙ y)
at_first Text s q b k a n m z h y = text_only s q (get_or s q 0) b k a n m (sym (ap kinds_of (ap (started_at s) z ∙ something_started s q h)) ∙ y)

-- a mark is read only where its byte stands
pub mark_only : (f : Format) (s : List ℕ) (p : ℕ) {b : ℕ} {k : Kind} {a n : ℕ} → Mark b k → kind_at f s p ≡ gives (spot k a n) → get_or s a 0 ≡ b
mark_only f s p {b} {k} {a} {n} m e =
    let g = grows f s p e in
    let x = first_is f s p e in
    ap (λ (q : ℕ). get_or s q 0) x ∙ at_first f s (skip_of f s p) b k a n m (skip_again f s p) (omega arith) (skip_same f s p ∙ e)

-- binary: unless the answer is "more", bytes behind change nothing
pub settled : (s u : List ℕ) (at : ℕ) → at ≤ length s → (kind_at Binary s at ≡ more → ⊥) → kind_at Binary (s ++ u) at ≡ kind_at Binary s at
unfolding kind_at token_from
settled s u at h f = ap kinds_of (bc.settled s u at h (λ e. f (ap kinds_of e)))

-- what the public call answers is what the scan sees, within the slice
pub kinds_at : (f : Format) (s : List ℕ) (at : ℕ) → at ≤ length s → kinds_of (token_at f s at) ≡ kind_at f s at
unfolding kind_at token_at
kinds_at f s at h = rw (le-ltb (length s) at h)

pub skip_binary : (s : List ℕ) (at : ℕ) → skip_of Binary s at ≡ at
unfolding skip_of
skip_binary s at = refl
