-- Writing a varint: always the shortest form, seven bits a byte, lowest first, the top bit set on each byte but the last.
use Rattle.std.specs.Prelude.{ℕ, zero, suc, ◌+◌, ◌/◌, ◌%◌, List, [], ◌∷◌, ◌++◌, length, drop, ltb}
use Rattle.refusal.specs.Numbers.{short_output}
use Rattle.refusal.specs.Paper.{Paper, gives, refused, pick}

-- the bytes of n, at most k of them before the last
unfoldable pub encode_in : ℕ → ℕ → List ℕ
encode_in zero n = n ∷ []
encode_in (suc k) n = pick (ltb n 128) (n ∷ []) ((n % 128 + 128) ∷ encode_in k (n / 128))

-- n has no more than n of them
unfoldable pub encode : ℕ → List ℕ
encode n = encode_in n n

-- the answer for an output of so many bytes: how many are written, or 27
unfoldable pub write_answer : ℕ → ℕ → Paper ℕ
write_answer room v = pick (ltb room (length (encode v))) (refused short_output []) (gives (length (encode v)))

-- the output afterwards: a refusal leaves it as it was, and an accepted call every byte past what it writes
unfoldable pub write_bytes : List ℕ → ℕ → List ℕ
write_bytes out v = pick (ltb (length out) (length (encode v))) out (encode v ++ drop (length (encode v)) out)
