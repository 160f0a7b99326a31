-- How the code makes the tests of the calls (the model's Calls.antt): those of what is lent, and those of an alloc, which end in the
-- bin to serve.
use Rattle.std.specs.Prelude.{ℕ, not, Result, ⊤, Ok, Err}
use Rattle.model.specs.declared.Params.{Params}
use Rattle.model.specs.declared.Refusal.{Refusal}
use Rattle.model.specs.declared.Refusal.TheVariants.{BadSetup, BadTables, BadClasses}
use Rattle.model.specs.Params.{Lent, fits}
use Rattle.model.specs.Classes.{classes_fit}
use Rattle.model.specs.Sound.{sound_on}
use Rattle.model.specs.Calls.{refused_if, and_then, tables_in}

-- what every call tests first
unfoldable pub lent_tests : Params → Lent → Result ⊤ Refusal
lent_tests p l =
    and_then (refused_if (not (fits p l)) BadSetup)
    (and_then (refused_if (not (classes_fit p)) BadClasses) (refused_if (not (sound_on p (tables_in l) l.heap)) BadTables))

-- the bin, once the tests of an alloc are passed
unfoldable pub bin_after : Result ⊤ Refusal → ℕ → Result ℕ Refusal
bin_after (Ok tt) bin = Ok bin
bin_after (Err r) bin = Err r
