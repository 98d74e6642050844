use Rattle.protocol.proofs.Codes.{message_of_code, code_of_message, code_below, writable_of}
use Rattle.protocol.proofs.theorems.codes_read_back.Goals as goal

pub returns : goal.returns
returns c = record { message_back = message_of_code; code_back = code_of_message; below = code_below; written = writable_of }
