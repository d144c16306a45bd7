-- What a caller may rely on: a token starts where the ignored bytes end, ends behind that place and within the bytes, and a refusal
-- carries that place; a letter or a quote there tells where the string ends. Assumes nothing.
use mathlib.Core.Path.{◌≡◌, refl, sym, ap, ◌∙◌}
use mathlib.Core.Logic.{⊎_elim}
use mathlib.Core.Bool.{Bool, true, false, ◌||◌}
use mathlib.Core.List.{List, [], ◌∷◌}
use Prim.Native.Nat.{ℕ, suc, ◌≤◌, ◌<◌}
use native.Mathlib.Omega.{arith}
use lib.Dec.{eqb, lit≤}
use Rattle.std.specs.Prelude.{Some}
use lib.ListN.{length, get_or}
use Rattle.refusal.specs.Numbers.{bad_byte, unknown_word}
use Rattle.refusal.specs.Paper.{Paper, gives, more, refused, Spot, spot, pick}
use Rattle.refusal.proofs.Cases.{either}
use Rattle.token.specs.declared.Token.{Token}
use Rattle.token.specs.Meaning.{kinds_of}
use Rattle.token.specs.Ends.{end_of, string_end, scalar_end}
use Rattle.token.specs.Marks.{mark_of, of_mark}
use Rattle.token.proofs.Sound.{Sound, pick_sound, mark_sound}
use Rattle.blanks.specs.Skip.{skip_from}
use Rattle.blanks.proofs.Laws.{skip_here}
use Rattle.blanks.proofs.Ways.{blank_above}
use Rattle.pieces.specs.Bytes.{quote}
use Rattle.quoted.specs.Quoted.{quoted_at}
use Rattle.quoted.proofs.Laws.{quoted_gives, quoted_refuses}
use Rattle.number.specs.Number.{number_at}
use Rattle.number.proofs.Laws.{number_lies, number_refused, NoNumber, outside, bad, BadNumber, bad_uint64_lem, bad_double_lem, bad_int64_lem}
use Rattle.token.specs.Digits.{is_digit}
use Rattle.words.specs.Plain.{is_letter, is_plain, plain_end}
use Rattle.words.specs.Word.{word_at}
use Rattle.words.proofs.Laws as w
use Rattle.text.specs.Text.{percent, starts_number, starts_plain, plain_at, started, started_at, text_from}
use Rattle.text.proofs.Laws.{nothing_started, something_started, letter_starts, plain_above, plain_starts, is_quoted, quoted_scalar_end}

module _ (s : List ℕ) (p : ℕ) (h : p < length s) where
  -- by what is known of a token, and of a refusal
  by : (q : Paper (Spot Token)) → ((t : Token) (f n : ℕ) → q ≡ gives (spot t f n) → (f ≡ p) × (p < n) × (n ≤ length s))
      → ((n : ℕ) (vs : List ℕ) → q ≡ refused n vs → (bad_byte ≤ n) × (n ≤ unknown_word) × (vs ≡ p ∷ [])) → Sound (length s) p q
  by (gives (spot t f n)) g r = g t f n refl
  by more g r = tt
  by (refused n vs) g r = r n vs refl

  quoted_sound : Sound (length s) p (quoted_at s p)
  quoted_sound =
      by (quoted_at s p) (λ t f n e. let x = quoted_gives s p t f n e in (x.here, x.past, x.lies))
      (λ n vs e. ⊎_elim (λ x. (omega (arith, x.0), omega (arith, x.0), x.1)) (λ x. absurd (omega arith)) (quoted_refuses s p n vs e))

  word_refusal : (n : ℕ) (vs : List ℕ) → w.NoWord s p n vs → (bad_byte ≤ n) × (n ≤ unknown_word) × (vs ≡ p ∷ [])
  word_refusal n vs (w.outside k) = absurd (omega arith)
  word_refusal n vs (w.unknown k) = (lit≤ tt, lit≤ tt, refl)

  word_sound : Sound (length s) p (word_at s p)
  word_sound =
      by (word_at s p) (λ t f n e. let x = w.word_lies s p t f n e in (x.here, x.grows, x.within))
      (λ n vs e. word_refusal n vs (w.word_refused s p n vs e))

  bad_refusal : (n : ℕ) (vs : List ℕ) → BadNumber p n vs → (bad_byte ≤ n) × (n ≤ unknown_word) × (vs ≡ p ∷ [])
  bad_refusal n vs bad_uint64_lem = (lit≤ tt, lit≤ tt, refl)
  bad_refusal n vs bad_double_lem = (lit≤ tt, lit≤ tt, refl)
  bad_refusal n vs bad_int64_lem = (lit≤ tt, lit≤ tt, refl)

  number_refusal : (n : ℕ) (vs : List ℕ) → NoNumber s p n vs → (bad_byte ≤ n) × (n ≤ unknown_word) × (vs ≡ p ∷ [])
  number_refusal n vs (outside k) = absurd (omega arith)
  number_refusal n vs (bad k b) = bad_refusal n vs b

  number_sound : Sound (length s) p (number_at s p)
  number_sound =
      by (number_at s p) (λ t f n e. let x = number_lies s p t f n e in (x.here, x.grows, x.within))
      (λ n vs e. number_refusal n vs (number_refused s p n vs e))

  starts_plain_lem : (b : ℕ) → starts_plain b ≡ true → is_plain b ≡ true
  unfolding is_plain
  starts_plain_lem b e = go (is_letter b) (is_digit b) (eqb b 0x5F) (eqb b 0x2D || eqb b 0x2E) e
    where
      go : (x d y r : Bool) → (x || y) ≡ true → (x || (d || (y || r))) ≡ true
      go true d y r e = refl
      go false true y r e = refl
      go false false true r e = refl
      go false false false r e = let z : ◌≡◌ {A = ℕ} 0 1 = cc in absurd (omega arith)

  plain_sound : starts_plain (get_or s p 0) ≡ true → Sound (length s) p (plain_at s p)
  unfolding plain_at
  plain_sound e = (refl, w.plain_grows s p h (starts_plain_lem (get_or s p 0) e), w.plain_within s p (omega arith))

  started_sound : Sound (length s) p (started s p (get_or s p 0))
  unfolding started
  started_sound =
      let b = get_or s p 0 in
      pick_sound (length s) p (eqb b quote) _ _ quoted_sound
      (pick_sound (length s) p (eqb b percent) _ _ word_sound
      (pick_sound (length s) p (starts_number b) _ _ number_sound
      (when (starts_plain b) refl)))
    where
      when : (q : Bool) → starts_plain (get_or s p 0) ≡ q → Sound (length s) p (pick q (plain_at s p) (of_mark p (mark_of (get_or s p 0))))
      when true e = plain_sound e
      when false e = mark_sound (length s) p h (mark_of (get_or s p 0))

-- the token at a place starts behind what is ignored there
pub sound : (s : List ℕ) (at : ℕ) → Sound (length s) (skip_from s at) (text_from s at)
unfolding text_from
sound s at =
    let p = skip_from s at in
    ⊎_elim (λ h. rw (something_started s p h) (started_sound s p h)) (λ h. rw (nothing_started s p (omega arith)) tt) (either (suc p) (length s))

-- ---- the end of a string by its first byte, which stands behind what is ignored

module _ (s : List ℕ) (at p : ℕ) (e : p ≡ skip_from s at) (h : p < length s) where
  begins : text_from s at ≡ started s p (get_or s p 0)
  unfolding text_from
  begins = ap (started_at s) (sym e) ∙ something_started s p h

  pub letter_ends : is_letter (get_or s p 0) ≡ true → Some (plain_end s p) ≡ string_end (kinds_of (text_from s at))
  unfolding plain_at
  letter_ends l =
      let t = letter_starts (get_or s p 0) l in
      sym (ap (λ (q : Paper (Spot Token)). string_end (kinds_of q)) (begins ∙ plain_starts s p (get_or s p 0) (λ z. omega (arith, plain_above (get_or s p 0) t)) t))

  pub quote_ends : get_or s p 0 ≡ quote → end_of (quoted_at s p) ≡ scalar_end (kinds_of (text_from s at))
  quote_ends q = quoted_scalar_end s p ∙ sym (ap (λ (q : Paper (Spot Token)). scalar_end (kinds_of q)) (begins ∙ is_quoted s p (get_or s p 0) q))

-- at a letter nothing is ignored
pub letter_here : (s : List ℕ) (p : ℕ) → p < length s → is_letter (get_or s p 0) ≡ true → p ≡ skip_from s p
letter_here s p h l =
    let a = plain_above (get_or s p 0) (letter_starts (get_or s p 0) l) in
    sym (skip_here s p h (blank_above (get_or s p 0) (omega arith)) (λ z. omega arith))
