-- Which definition a first byte leads to, and the ends of what it starts. Assumes nothing.
use mathlib.Core.Path.{◌≡◌, refl, sym, ◌∙◌}
use mathlib.Core.Bool.{Bool, true, false, ◌||◌}
use mathlib.Core.Logic.{⊎_elim}
use mathlib.Core.List.{List, []}
use Prim.Native.Nat.{ℕ, ◌≤◌, ◌<◌}
use native.Mathlib.Omega.{arith}
use lib.Dec.{eqb, leb}
use Rattle.std.specs.Prelude.{None}
use lib.ListN.{length, get_or}
use borrow.Author.Tests.{lt-ltb, le-ltb, le-leb, lt-leb, eq-eqb, ne_eqb}
use Rattle.refusal.specs.Numbers.{beyond_slice}
use Rattle.refusal.specs.Paper.{Paper, more, refused, Spot}
use Rattle.token.specs.declared.Token.{Token}
use Rattle.token.specs.declared.Kind.TheVariants.{Text, Scalar}
use Rattle.token.specs.Meaning.{kinds_of}
use Rattle.token.specs.Marks.{mark_of, of_mark}
use Rattle.token.specs.Ends.{end_of, string_end, scalar_end}
use Rattle.token.specs.Strings.{string_found}
use Rattle.token.proofs.Ends.{holds, All, strings_end, strings_scalar, scalars_end, scalars_string, mark_no_string}
use Rattle.blanks.specs.Skip.{skip_from}
use Rattle.pieces.specs.Bytes.{quote}
use Rattle.quoted.specs.Quoted.{quoted_at, quoted_string_at}
use Rattle.quoted.proofs.Laws.{quoted_gives}
use Rattle.token.specs.Digits.{is_digit}
use Rattle.number.specs.Bytes.{is_sign}
use Rattle.number.specs.Number.{number_at}
use Rattle.number.proofs.Laws.{number_lies, numeric_scalar}
use Rattle.words.specs.Plain.{is_letter}
use Rattle.words.specs.Word.{word_at}
use Rattle.refusal.proofs.Cases.{either}
use Rattle.words.proofs.Plain.{letter_low}
use Rattle.words.proofs.Laws.{word_lies, worded_scalar}
use Rattle.text.specs.Text.{percent, starts_number, starts_plain, plain_at, started, started_at, text_from, text_at}
use Rattle.text.specs.Strings.{string_started, string_started_at, text_string_at}

-- ---- the classes, by the code's tests

or_false : (q : Bool) → (q || false) ≡ q
or_false true = refl
or_false false = refl

module _ (b : ℕ) where
  pub digit_or_above : 48 ≤ b → starts_number b ≡ leb b 57
  unfolding is_digit is_sign
  digit_or_above h = rw (le-leb 48 b h, ne_eqb b 43 (λ e. omega arith), ne_eqb b 45 (λ e. omega arith)) (or_false (leb b 57))

  pub plus_starts : b ≡ 43 → starts_number b ≡ true
  unfolding is_digit is_sign
  plus_starts e = rw e

  pub below_digits : b < 48 → (b ≡ 43 → ⊥) → starts_number b ≡ eqb b 45
  unfolding is_digit is_sign
  below_digits h n = rw (lt-leb 48 b h, ne_eqb b 43 n)

  pub letter_starts : is_letter b ≡ true → starts_plain b ≡ true
  letter_starts e = rw e

  pub other_starts : is_letter b ≡ false → starts_plain b ≡ eqb b 0x5F
  other_starts e = rw e

module _ (s : List ℕ) (p b : ℕ) where
  pub is_quoted : b ≡ quote → started s p b ≡ quoted_at s p
  unfolding started
  is_quoted e = rw (eq-eqb b quote e)

  module _ (nq : b ≡ quote → ⊥) where
    pub is_word : b ≡ percent → started s p b ≡ word_at s p
    unfolding started
    is_word e = rw (ne_eqb b quote nq, eq-eqb b percent e)

    module _ (np : b ≡ percent → ⊥) where
      pub is_number : starts_number b ≡ true → started s p b ≡ number_at s p
      unfolding started
      is_number e = rw (ne_eqb b quote nq, ne_eqb b percent np, e)

      module _ (nn : starts_number b ≡ false) where
        pub is_plain : starts_plain b ≡ true → started s p b ≡ plain_at s p
        unfolding started
        is_plain e = rw (ne_eqb b quote nq, ne_eqb b percent np, nn, e)

        pub is_mark_lem : starts_plain b ≡ false → started s p b ≡ of_mark p (mark_of b)
        unfolding started
        is_mark_lem e = rw (ne_eqb b quote nq, ne_eqb b percent np, nn, e)

-- what starts an unquoted string starts no number and no word
pub plain_above : (b : ℕ) → starts_plain b ≡ true → 65 ≤ b
plain_above b e =
    ⊎_elim (λ h. h) (λ h. absurd (no (sym (other_starts b (sym (letter_low b h)) ∙ ne_eqb b 0x5F (λ z. omega arith)) ∙ e))) (either 65 b)
  where
    no : ◌≡◌ {A = Bool} false true → ⊥
    no x = let z : ◌≡◌ {A = ℕ} 0 1 = cc in omega arith

pub plain_starts : (s : List ℕ) (p b : ℕ) → (b ≡ quote → ⊥) → starts_plain b ≡ true → started s p b ≡ plain_at s p
plain_starts s p b nq e =
    let h = plain_above b e in
    is_plain s p b nq (λ z. omega arith) (digit_or_above b (omega arith) ∙ lt-leb b 57 (omega arith)) e

-- ---- places

module _ (s : List ℕ) (p : ℕ) where
  pub nothing_started : length s ≤ p → started_at s p ≡ more
  unfolding started_at
  nothing_started h = rw (le-ltb p (length s) h)

  pub something_started : p < length s → started_at s p ≡ started s p (get_or s p 0)
  unfolding started_at
  something_started h = rw (lt-ltb p (length s) h)

module _ (s : List ℕ) (at : ℕ) where
  pub beyond : length s < at → text_at s at ≡ refused beyond_slice []
  unfolding text_at
  beyond h = rw (lt-ltb _ _ h)

  pub from_is : at ≤ length s → text_at s at ≡ started_at s (skip_from s at)
  unfolding text_at text_from
  from_is h = rw (le-ltb (length s) at h)

-- ---- ends

module _ (s : List ℕ) (p : ℕ) where
  pub quoted_text : All Text (quoted_at s p)
  quoted_text t f n e = (quoted_gives s p t f n e).kind

  pub word_scalar : All Scalar (word_at s p)
  word_scalar t f n e = worded_scalar (word_lies s p t f n e).worded

  pub number_scalar : All Scalar (number_at s p)
  number_scalar t f n e = numeric_scalar (number_lies s p t f n e).numeric

  pub quoted_string_end : end_of (quoted_at s p) ≡ string_end (kinds_of (quoted_at s p))
  quoted_string_end = sym (strings_end (quoted_at s p) quoted_text)

  pub quoted_scalar_end : end_of (quoted_at s p) ≡ scalar_end (kinds_of (quoted_at s p))
  quoted_scalar_end = sym (strings_scalar (quoted_at s p) quoted_text)

  pub word_scalar_end : end_of (word_at s p) ≡ scalar_end (kinds_of (word_at s p))
  word_scalar_end = sym (scalars_end (word_at s p) word_scalar)

  pub number_scalar_end : end_of (number_at s p) ≡ scalar_end (kinds_of (number_at s p))
  number_scalar_end = sym (scalars_end (number_at s p) number_scalar)

  abbrev NoString : Paper (Spot Token) → Type 0
  NoString q = string_end (kinds_of q) ≡ None

  pub no_string : (b : ℕ) → (b ≡ quote → ⊥) → starts_plain b ≡ false → string_end (kinds_of (started s p b)) ≡ None
  unfolding started
  no_string b nq e =
      rw (ne_eqb b quote nq, e)
      (holds NoString (eqb b percent) _ _ (scalars_string (word_at s p) word_scalar)
      (holds NoString (starts_number b) _ _ (scalars_string (number_at s p) number_scalar) (mark_no_string p b)))

-- ---- strings

module _ (s : List ℕ) (p : ℕ) where
  pub no_string_started : length s ≤ p → string_started_at s p ≡ more
  unfolding string_started_at
  no_string_started h = rw (le-ltb p (length s) h)

  pub quoted_string_started : p < length s → get_or s p 0 ≡ quote → string_started_at s p ≡ quoted_string_at s p
  unfolding string_started_at string_started
  quoted_string_started h e = rw (lt-ltb p (length s) h, eq-eqb (get_or s p 0) quote e)

  pub other_string_started : p < length s → (get_or s p 0 ≡ quote → ⊥) → string_started_at s p ≡ string_found s (started s p (get_or s p 0))
  unfolding string_started_at string_started
  other_string_started h n = rw (lt-ltb p (length s) h, ne_eqb (get_or s p 0) quote n)

module _ (s : List ℕ) (at : ℕ) where
  pub string_beyond : length s < at → text_string_at s at ≡ refused beyond_slice []
  unfolding text_string_at
  string_beyond h = rw (lt-ltb _ _ h)

  pub string_from : at ≤ length s → text_string_at s at ≡ string_started_at s (skip_from s at)
  unfolding text_string_at
  string_from h = rw (le-ltb (length s) at h)
