-- Asking for a string's bytes: the answer, and what the output holds afterwards. Each format says which bytes stand at a place.
use Rattle.std.specs.Prelude.{ℕ, List, [], ◌++◌, ltb, length, take, drop, Option, Some, None, Result, Ok, Err}
use Rattle.refusal.specs.Numbers.{not_string, short_output}
use Rattle.refusal.specs.Paper.{Paper, gives, more, refused, Got, got, Spot, spot, pick}
use Rattle.refusal.specs.Meaning.{unread_meaning}
use Rattle.token.specs.declared.Token.{Token}
use Rattle.token.specs.declared.Extent.{Extent}
use Rattle.token.specs.declared.Extent.TheVariants.{Plain, Quoted}
use Rattle.token.specs.Meaning.{extent_of}
use Rattle.refusal.specs.declared.Unread.{Unread}
use Rattle.token.specs.declared.Copied.{Copied}
use Rattle.token.specs.declared.NoBytes.{NoBytes}
use Rattle.token.specs.declared.NoBytes.TheVariants as none

-- none were written, since no token was read
abbrev pub none_read : Unread → NoBytes
none_read e = none.Unread e

-- why none were written: no token was read, 14, or 27
abbrev pub no_bytes_meaning : {A : Type 0} → NoBytes → Paper A
no_bytes_meaning (none.Unread e) = unread_meaning e
no_bytes_meaning none.NotString = refused not_string []
no_bytes_meaning none.Short = refused short_output []

-- how many bytes were written and the place after the token, more bytes are needed, or a refusal
abbrev pub unescaped_meaning : Result Copied NoBytes → Paper (Got ℕ)
unescaped_meaning (Ok c) = gives (got c.count c.next)
unescaped_meaning (Err e) = no_bytes_meaning e

-- the answer for a string at a place (its bytes and the place after it, or why there is none) and an output of so many bytes:
-- 27 comes last
unfoldable pub bytes_answer : Paper (Got (List ℕ)) → ℕ → Paper (Got ℕ)
bytes_answer (gives (got bytes next)) room =
    pick (ltb room (length bytes)) (refused short_output []) (gives (got (length bytes) next))
bytes_answer more room = more
bytes_answer (refused n vs) room = refused n vs

-- the output afterwards: a refused call writes nothing, and output past what an accepted call writes keeps its bytes
unfoldable pub bytes_written : Paper (Got (List ℕ)) → List ℕ → List ℕ
bytes_written (gives (got bytes next)) out = pick (ltb (length out) (length bytes)) out (bytes ++ drop (length bytes) out)
bytes_written more out = out
bytes_written (refused n vs) out = out

-- the bytes of a string that stands in the input as it is, and the place after it; 14 for any other token
abbrev pub string_of : List ℕ → ℕ → Option Extent → Paper (Got (List ℕ))
string_of s next (Some (Plain start len)) = gives (got (take len (drop start s)) next)
string_of s next (Some (Quoted start len)) = refused not_string []
string_of s next None = refused not_string []

-- 26 and the token's own answer go before 14
abbrev pub string_found : List ℕ → Paper (Spot Token) → Paper (Got (List ℕ))
string_found s (gives (spot t first next)) = string_of s next (extent_of t)
string_found s more = more
string_found s (refused n vs) = refused n vs
