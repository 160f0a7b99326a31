-- The three sections of a listing, from what stands after the lines of a trace.
use Rattle.std.specs.Prelude.{List, [], ◌∷◌, ◌++◌, ℕ}
use Rattle.model.specs.Census.{section}
use Rattle.listing.specs.declared.print.Refused.{Refused}
use Rattle.listing.specs.Print.{refused_rows}
use Rattle.listing.specs.Sections.{blocks_text, free_text}

-- the refused lines, words, states, marks and heap
unfoldable pub listing_text : List Refused → List ℕ → List ℕ → List ℕ → List ℕ → List ℕ
listing_text refused words states marks heap =
    section (114 ∷ 101 ∷ 102 ∷ 117 ∷ 115 ∷ 101 ∷ 100 ∷ []) (refused_rows refused)
    ++ (blocks_text words states ++ free_text words states marks heap)
