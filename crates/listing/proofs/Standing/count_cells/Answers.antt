-- `sections::count_cells` sums up the cells of the occupied blocks: at most 4096 of each, so that they fit.
use mathlib.Core.Path.{refl}
use Prim.Native.Nat.{◌^◌}
use borrow.Author.Rules.{rules}
use borrow.Author.Tests.{tests}
use Rattle.std.proofs.Common.{of_calls}
use Rattle.std.proofs.lemmas.Iterator.{YieldsList-from_range, YieldsList-from_map}
use Rattle.std.proofs.lemmas.Iterator.Consumers.{YieldsList-at, YieldsList-from_filter, sum_by_from_yields_List, fits_by_from_yields_list}
use Rattle.listing.specs.Sections.{is_occupied}
use Rattle.listing.proofs.SectionsLaws.{cells_in, occupied_kept, cells_fit, cells_counted}
use Rattle.listing.proofs.Standing.count_cells.Goals as goal

pub sum-requires : goal.sum-requires
sum-requires c =
    let st = c.args.self.now.states.now in
    let g = cells_in c.args.self.now.words.now c.args.self.now.marks.now c.args.self.now.heap.now in
    record {
      can = search of_calls;
      finite = search of_calls;
      fits =
          fits_by_from_yields_list g (occupied_kept st) c.map.result (2 ^ 64)
          (YieldsList-from_map _ g
          (YieldsList-at c.map.ensures.source
          (YieldsList-from_filter _ (is_occupied st) (YieldsList-from_range 0 4 4 c.filter.ensures.source refl) c.filter.ensures.closure (λ x r q k. search (rules, tests))))
          c.map.ensures.closure (λ x r q k. search (rules, tests)))
          (cells_fit _ _ _ _);
    }

pub returns : goal.returns
returns c =
    let st = c.args.self.now.states.now in
    let g = cells_in c.args.self.now.words.now c.args.self.now.marks.now c.args.self.now.heap.now in
    cells_counted _ _ _ _
    (sum_by_from_yields_List g (occupied_kept st) c.map.result _ c.sum.ensures.ran
    (YieldsList-from_map _ g
    (YieldsList-at c.map.ensures.source
    (YieldsList-from_filter _ (is_occupied st) (YieldsList-from_range 0 4 4 c.filter.ensures.source refl) c.filter.ensures.closure (λ x r q k. search (rules, tests))))
    c.map.ensures.closure (λ x r q k. search (rules, tests))))
