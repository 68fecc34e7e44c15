-- `h261_words::end_codeword` meets its contract: EOB, as printed.
use Rattle.h261_words.proofs.Codewords.{end_writes}
use Rattle.h261_words.proofs.end_codeword.Goals as goal

pub returns : goal.returns
returns c = end_writes
