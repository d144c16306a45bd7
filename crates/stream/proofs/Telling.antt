-- What a stream that is read in part means, in any terms in which a trace of calls tells of it. Assumes nothing.
use mathlib.Core.Path.{◌≡◌, refl, sym, ap, ◌∙◌}
use mathlib.Core.Bool.{Bool, true, false}
use mathlib.Core.List.{List, [], ◌∷◌, ◌++◌, append-nil}
use Prim.Native.Nat.{ℕ, ◌+◌, ◌-◌, ◌≤◌, ◌<◌}
use native.Mathlib.Omega.{arith}
use lib.Dec.{eqb}
use lib.ListN.{length, get_or, take}
use lib.Seq.{take-append-add}
use borrow.Author.Tests.{eq-eqb, ne_eqb, eqb-true, eqb-false}
use Rattle.refusal.specs.Numbers.{malformed_record, cut_short, record_too_long}
use Rattle.refusal.specs.Paper.{Paper, gives, more, refused, pick}
use Rattle.kept.specs.declared.Blocks.{Blocks}
use Rattle.kept.specs.Kept.{no_blocks}
use Rattle.blocks.specs.Readings.{Reader, read_by}
use Rattle.reader.specs.Meaning.{handed, ended}
use Rattle.reader.specs.Calls.{mark_of}
use Rattle.buffer.specs.Buffer.{separators}
use Rattle.stream.specs.Interface.{TokenReader}
use Rattle.stream.specs.Whole.{streamed}
use Rattle.stream.specs.Tokens.{tokens_by}
use Rattle.stream.specs.Drive.{Heard, Trace, heard, stopped}
use Rattle.stream.proofs.Turns.{Reads, read, on_is, tokens_are, reads_to, reads_done, reads_on}
use Rattle.stream.proofs.Records.{behind, none_left, record_first, first_none}

-- terms X in which a stream with a buffer of n bytes is told: `end` of an empty rest; `one` of a rest R at an offset, by the tokens passed
-- of it and what its readings say, and by how it goes on behind a record; `add` of tokens passed before. `Says` is what a trace tells, and
-- the laws say that it tells what each answer of next stands for
pub record Telling (n : ℕ) (X : Type 0) : Type 1 where
  pub end : X
  pub one : ℕ → Paper ℕ → List ℕ → ℕ → (ℕ → X) → X
  pub add : ℕ → X → X
  pub add_none : (x : X) → add 0 x ≡ x
  pub add-one : (c d : ℕ) (w : Paper ℕ) (R : List ℕ) (o : ℕ) (on : ℕ → X) → one (c + d) w R o on ≡ add c (one d w R o on)
  pub Says : Trace → X → Type 0
  pub says_record : (h : Heard) (r : Trace) (p q o c : ℕ) (R : List ℕ) (on : ℕ → X) → h.answer ≡ gives (handed p q o (mark_of (get_or R 0 0))) → h.bytes ≡ take q R
      → h.readings ≡ c → h.left ≡ false → Says r (on q) → Says (heard h r) (one c (gives q) R o on)
  pub says_more : (h : Heard) (r : Trace) (c : ℕ) (x : X) → h.answer ≡ more → h.readings ≡ c + pick h.left 1 0 → Says r x → Says (heard h r) (add c x)
  pub says_refused : (h : Heard) (c o m : ℕ) (vs R : List ℕ) (on : ℕ → X) → h.answer ≡ refused malformed_record (o ∷ m ∷ vs) → h.readings ≡ c + pick h.left 1 0
      → Says (heard h stopped) (one c (refused m vs) R o on)
  pub says_long : (h : Heard) (c o : ℕ) (R : List ℕ) (on : ℕ → X) → n ≤ length R → h.answer ≡ refused record_too_long (o ∷ n ∷ []) → h.readings ≡ c + pick h.left 1 0
      → Says (heard h stopped) (one c more R o on)
  pub says_cut : (h : Heard) (c o : ℕ) (R : List ℕ) (on : ℕ → X) → length R < n → h.answer ≡ refused cut_short (o ∷ length R ∷ []) → h.readings ≡ c + pick h.left 1 0
      → Says (heard h stopped) (one c more R o on)
  pub says_end : (h : Heard) → h.answer ≡ gives ended → h.readings ≡ pick h.left 1 0 → Says (heard h stopped) end

-- the whole stream in such terms
abbrev pub one_by : {X : Type 0} {n : ℕ} → Reader → Telling n X → List ℕ → ℕ → (ℕ → X) → X
one_by {X} {n} t M R o on = M.one (tokens_by t (take n R) 0 no_blocks) (read_by t (take n R) 0 no_blocks).answer R o on

abbrev pub whole_in : {X : Type 0} {n : ℕ} → Reader → Telling n X → List ℕ → ℕ → X
whole_in t M R o = streamed M.end (one_by t M) R 0 o

-- a record of which k bytes are passed, with the blocks b open: R starts at its first byte
abbrev pub resumed : {X : Type 0} {n : ℕ} → Reader → Telling n X → Blocks → ℕ → ℕ → List ℕ → X
resumed {X} {n} t M b k o R = M.one (tokens_by t (take n R) k b) (read_by t (take n R) k b).answer R o (behind M.end (one_by t M) R o)

-- and where none is, the whole stream
unfoldable pub means : {X : Type 0} {n : ℕ} → Reader → Telling n X → Blocks → ℕ → ℕ → List ℕ → X
means t M b k o R = pick (eqb k 0) (whole_in t M R o) (resumed t M b k o R)

module _ (t : Reader) (T : TokenReader t) {X : Type 0} {n : ℕ} (M : Telling n X) where
  pub means_none : (b : Blocks) (k o : ℕ) (R : List ℕ) → k ≡ 0 → means t M b k o R ≡ whole_in t M R o
  unfolding means
  means_none b k o R e = rw (eq-eqb k 0 e) refl

  means_some : (b : Blocks) (k o : ℕ) (R : List ℕ) → (k ≡ 0 → ⊥) → means t M b k o R ≡ resumed t M b k o R
  unfolding means
  means_some b k o R e = rw (ne_eqb k 0 e) refl

  by_reads : (b : Blocks) (k o : ℕ) (R : List ℕ) {c e z : ℕ} {b' : Blocks} {w : Paper ℕ} → Reads t (take n R) k b c e z b' w → resumed t M b k o R ≡ M.one c w R o (behind M.end (one_by t M) R o)
  by_reads b k o R r = λ i. M.one (tokens_are t T (take n R) r i) (on_is t T (take n R) r 0 i).answer R o (behind M.end (one_by t M) R o)

  first_means : (B U : List ℕ) (o : ℕ) → separators B ≡ 0 → 0 < length B → whole_in t M (B ++ U) o ≡ resumed t M no_blocks 0 o (B ++ U)
  first_means [] U o e h = absurd (omega arith)
  first_means (x ∷ xs) U o e h = record_first M.end (one_by t M) x (xs ++ U) o (first_none x xs e)

  -- the buffered bytes B, of which k are passed with the blocks b open, and the bytes U that follow
  module _ (B U : List ℕ) (b : Blocks) (k o : ℕ) (k_b : k ≤ length B) (n_b : length B ≤ n) (blank : k ≡ 0 → b ≡ no_blocks) (ready : k ≡ 0 → separators B ≡ 0) where
    abbrev R : List ℕ
    R = B ++ U

    full : take n R ≡ B ++ take (n - length B) U
    full =
        let e : length B + (n - length B) ≡ n = omega arith in
        ap (λ (i : ℕ). take i R) (sym e) ∙ take-append-add B U (n - length B)

    means_resumed : 0 < length B → means t M b k o R ≡ resumed t M b k o R
    means_resumed some = by (eqb k 0) refl
      where
        by : (q : Bool) → eqb k 0 ≡ q → means t M b k o R ≡ resumed t M b k o R
        by false e = means_some b k o R (eqb-false k 0 e)
        by true e =
            let z : k ≡ 0 = eqb-true k 0 e in
            means_none b k o R z ∙ first_means B U o (ready z) some ∙ ap (λ (c : Blocks). resumed t M c 0 o R) (sym (blank z)) ∙ ap (λ (i : ℕ). resumed t M b i o R) (sym z)

    module _ {c e z : ℕ} {b' : Blocks} {w : Paper ℕ} (r : Reads t B k b c e z b' w) where
      -- the readings of the buffered bytes came to an answer
      pub means_done : 0 < length B → (w ≡ more → ⊥) → means t M b k o R ≡ M.one c w R o (behind M.end (one_by t M) R o)
      means_done some h =
          let v : Reads t (take n R) k b c e z b' w = rw full (reads_done t T B (take (n - length B) U) r h) in
          means_resumed some ∙ by_reads b k o R v

      -- no byte follows, or none of the first n
      pub means_last : 0 < length B → take (n - length B) U ≡ [] → means t M b k o R ≡ M.one c w R o (behind M.end (one_by t M) R o)
      means_last some h =
          let v : Reads t (take n R) k b c e z b' w = rw (full, h, append-nil B) r in
          means_resumed some ∙ by_reads b k o R v

      -- they want more
      pub means_more : w ≡ more → means t M b k o R ≡ M.add c (means t M b' z o R)
      means_more h = by (eqb z 0) refl
        where
          by : (q : Bool) → eqb z 0 ≡ q → means t M b k o R ≡ M.add c (means t M b' z o R)
          by true e =
              let z0 : z ≡ 0 = eqb-true z 0 e in
              let y = reads_to t T B r k_b in
              let c0 : c ≡ 0 = omega (arith, y.0) in
              means_none b k o R (omega (arith, y.0)) ∙ sym (means_none b' z o R z0) ∙ sym (M.add_none (means t M b' z o R)) ∙ ap (λ (i : ℕ). M.add i (means t M b' z o R)) (sym c0)
          by false e =
              let nz : z ≡ 0 → ⊥ = eqb-false z 0 e in
              let y = reads_to t T B r k_b in
              let r' = read t T (take n R) z b' in
              let v : Reads t (take n R) k b (c + r'.count) r'.extra r'.place r'.blocks r'.answer = rw full (reads_on t T B (take (n - length B) U) r h (rw full at r'.it)) in
              means_resumed (omega (arith, y.1)) ∙ by_reads b k o R v ∙ M.add-one c r'.count r'.answer R o (behind M.end (one_by t M) R o)
              ∙ ap (M.add c) (sym (means_some b' z o R nz ∙ by_reads b' z o R r'.it))

  -- nothing is passed and nothing is left
  pub means_end : (b : Blocks) (k o : ℕ) (R : List ℕ) → k ≡ 0 → length R ≡ 0 → means t M b k o R ≡ M.end
  means_end b k o [] e h = means_none b k o [] e ∙ none_left M.end (one_by t M) o
  means_end b k o (x ∷ xs) e h = absurd (omega arith)
