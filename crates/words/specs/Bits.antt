-- Clearing a mark bit, beside `set_bit` of the machine, which never clears a single one.
use Rattle.std.specs.Prelude.{if◌then◌else◌, ℕ, ◌-◌, ◌^◌}
use Rattle.model.specs.Memory.{bit_of}

unfoldable pub clear_bit : ℕ → ℕ → ℕ
clear_bit byte i = if bit_of byte i then byte - 2 ^ i else byte
