-- `word_at` meets its contract.
use Rattle.std.proofs.Common.{rules}
use Rattle.word.proofs.Bytes.{word_read}
use Rattle.word.proofs.word_at.Goals as goal

pub returns : goal.returns
returns c = search (rules, word_read)
