-- `stop_at` meets its contract: what the full reader says of the token is what the automaton reads there.
use mathlib.Core.Path.{◌≡◌, sym, ap, ◌∙◌}
use Prim.Native.Nat.{ℕ, ◌<◌}
use mathlib.Core.List.{List, [], ◌∷◌}
use native.Mathlib.Omega.{arith}
use lib.ListN.{length}
use Rattle.std.specs.Prelude.{Result, Ok, Err}
use Rattle.refusal.specs.Meaning.{refusal_meaning}
use Rattle.refusal.specs.Paper.{more, refused}
use Rattle.refusal.specs.declared.Format.{Format}
use Rattle.refusal.specs.declared.Refusal.{Refusal}
use Rattle.refusal.specs.declared.Unread.{Unread}
use Rattle.refusal.specs.declared.Unread.TheVariants as u
use Rattle.token.specs.Meaning.{read_meaning, kinds_of}
use Rattle.token.specs.declared.Placed.{Placed}
use Rattle.lexer.specs.Lexer.{kind_at, token_at}
use Rattle.lexer.proofs.Laws.{kinds_at, refused_is}
use Rattle.scan.specs.Post.{why_of}
use Rattle.scan.proofs.stop_at.Goals as goal

module _ (f : Format) (s : List ℕ) (p w : ℕ) (t : Result Placed Unread) (within : p < length s) (told : read_meaning t ≡ token_at f s p) where
  -- the automaton reads the kind of what was told
  kind-is : (r : Result Placed Unread) → t ≡ r → kind_at f s p ≡ kinds_of (read_meaning r)
  kind-is r e = sym (ap kinds_of told ∙ kinds_at f s p (omega arith)) ∙ ap (λ (r : Result Placed Unread). kinds_of (read_meaning r)) e

  token : (q : Placed) → t ≡ Ok q → refused w (q.next ∷ []) ≡ why_of w (kind_at f s p)
  unfolding why_of
  token q e = sym (ap (why_of w) (kind-is (Ok q) e))

  none : t ≡ Err u.Incomplete → more ≡ why_of w (kind_at f s p)
  unfolding why_of
  none e = sym (ap (why_of w) (kind-is (Err u.Incomplete) e))

  bad : (r : Refusal) → t ≡ Err (u.Refused r) → refusal_meaning r ≡ why_of w (kind_at f s p)
  unfolding why_of
  bad r e = sym (ap (why_of w) (kind-is (Err (u.Refused r)) e))

  -- the place is none beyond the bytes
  beyond : t ≡ Err u.Beyond → ⊥
  beyond e = let g = refused_is f s p (kind-is (Err u.Beyond) e) in omega (arith, g.1)

pub returns-in-Ok : goal.returns-in-Ok
returns-in-Ok c = ap refusal_meaning c.at.ensures ∙ token c.args.format c.args.input.now c.args.p _ _ (omega arith) c.next_token.ensures c.in-Ok.field-0 c.in-Ok.is

pub returns-in-Err-Refused : goal.returns-in-Err-Refused
returns-in-Err-Refused c =
    let e = c.in-Err-Refused in
    ap refusal_meaning e.refusal-is ∙ bad c.args.format c.args.input.now c.args.p _ _ (omega arith) c.next_token.ensures e.refusal (e.is ∙ ap Err e.field-0-is)

pub returns-in-Err-Incomplete : goal.returns-in-Err-Incomplete
returns-in-Err-Incomplete c = let e = c.in-Err-Incomplete in none c.args.format c.args.input.now c.args.p _ _ (omega arith) c.next_token.ensures (e.is ∙ ap Err e.field-0-is)

pub returns-in-Err-Beyond : goal.returns-in-Err-Beyond
returns-in-Err-Beyond c = let e = c.in-Err-Beyond in absurd (beyond c.args.format c.args.input.now c.args.p 0 _ (omega arith) c.next_token.ensures (e.is ∙ ap Err e.field-0-is))
