-- "Refusals, tested in this order", and the eight calls: what each answers, and every table word, state byte, mark byte and
-- heap byte after it.
--
-- A call on sound tables is planned by the tables and marks alone (`plan_sound`). The heap is read by the test of chains before
-- (`plan`) and by `finish`, at the link of the one cell taken.
use Rattle.std.specs.Prelude.{if◌then◌else◌, ℕ, ◌+◌, ◌-◌, ◌%◌, Bool, true, not, ◌&&◌, ◌||◌, List, [], ◌∷◌, ◌++◌, eqb, ltb, leb, length, get_or, Result, ⊤, Ok, Err, Option, None, Some}
use Rattle.model.specs.declared.Params.{Params}
use Rattle.model.specs.declared.Block.{Block}
use Rattle.model.specs.declared.Refusal.{Refusal}
use Rattle.model.specs.declared.Refusal.TheVariants.{BadSetup, BadTables, WrongPhase, BadHolder, BadRequest, TooBig, BadOffer, BadLink, Exhausted, BadObject, BadLine, BadClasses}
use Rattle.model.specs.Base.{sum_below, flag}
use Rattle.model.specs.Params.{good_params, power_of_two, Lent, fits, word_count, in_heap, start, block_at, minus_lower, bins, last_bin, local_sets, abandoned}
use Rattle.model.specs.Memory.{load, marked}
use Rattle.model.specs.Tables.{Words, Tables, tables_of, with_words, view, flat, set_free, set_cells}
use Rattle.model.specs.SizeClasses.{bin_of, raised, align_allocation}
use Rattle.model.specs.Classes.{bad_count, bad_row, classes_fit}
use Rattle.model.specs.BlockList.{pages_used, pages_end}
use Rattle.model.specs.Block.{state_unallocated}
use Rattle.model.specs.Events.{Event, taken, event_heap, events_heap, sweeps, releases}
use Rattle.model.specs.FreeListAllocator.{Search, find_block}
use Rattle.model.specs.Global.{phase_running, phase_marking, phase_releasing, fresh_tables, is_holder, is_bound, has_released, bind_holder, abandoned_blocks, destroy_holder, prepared, mark_place, Freed, release_holder, sweep_later, eagerly, part_released, merged}
use Rattle.model.specs.Sound.{state_of, bin_named, sound_on}

-- ---- refusals and replies

unfoldable pub refusal_number : Refusal → ℕ
refusal_number BadSetup = 1
refusal_number BadTables = 2
refusal_number WrongPhase = 3
refusal_number BadHolder = 4
refusal_number BadRequest = 5
refusal_number TooBig = 6
refusal_number BadOffer = 7
refusal_number BadLink = 8
refusal_number Exhausted = 9
refusal_number BadObject = 10
refusal_number BadLine = 11
refusal_number BadClasses = 12

-- What a call says: 0 and its values in order, or a refusal's number. "A refusal returns its number only.", but for Exhausted
pub record Reply : Type 0 where
  pub number : ℕ
  pub values : List ℕ

abbrev pub answered : List ℕ → Reply
answered vs = record { number = 0; values = vs }

abbrev pub refused : Refusal → Reply
refused refusal = record { number = refusal_number refusal; values = [] }

-- 02, R-12: "Exhausted must report its swept count too (an export writes it in its place, zeros elsewhere), which amends R-2 and 01's rule
-- that a refusal returns only its number." Its place is the fourth, as in an alloc's answer
abbrev pub exhausted : ℕ → Reply
exhausted n = record { number = refusal_number Exhausted; values = 0 ∷ 0 ∷ 0 ∷ n ∷ [] }

-- ---- calls

-- holders, sizes, places and block numbers are as they come
pub data Call : Type 0 where
  -- the holder
  bind destroy release : ℕ → Call
  -- holder, size, align, offset, offer
  alloc : ℕ → ℕ → ℕ → ℕ → Option Block → Call
  -- place and block
  mark : ℕ → ℕ → Call
  prepare shared_release : Call

-- how a call ends: by a reply, or by taking a cell of a block, for this align and offset, the offer used or not
pub data End : Type 0 where
  says : Reply → End
  takes : ℕ → ℕ → ℕ → Bool → End

pub record Plan : Type 0 where
  pub tables : Tables
  pub events : List Event
  pub end : End

-- the plan that changes nothing
abbrev pub refuses : Tables → Refusal → Plan
refuses t refusal = record { tables = t; events = []; end = says (refused refusal) }

-- the plan that only changes tables
abbrev pub changes : Tables → List ℕ → Plan
changes t values = record { tables = t; events = []; end = says (answered values) }

-- ---- "BadRequest: size or offset no multiple of MIN, offset over 65,536, align no power of two in MIN to MAX"

unfoldable pub good_request : Params → ℕ → ℕ → ℕ → Bool
good_request p size align offset =
    eqb (size % p.min) 0 && eqb (offset % p.min) 0 && leb offset 65536
    && (power_of_two align && leb p.min align && leb align p.max)

-- "TooBig: raised size over the block size"
unfoldable pub too_big : Params → ℕ → ℕ → Bool
too_big p size align = ltb p.bytes (raised p size align)

-- "BadOffer: offer out of range or not Unallocated, even if not needed"
unfoldable pub good_offer : Params → Tables → Option Block → Bool
good_offer p t = elim [ None ↦ true | Some b ↦ ltb b.0 p.blocks && eqb (state_of t b.0) state_unallocated ]

-- "BadObject: mark place not in the heap at a multiple of 8, block out of range or Unallocated, or place − L outside that
-- block"
unfoldable pub good_object : Params → Tables → ℕ → ℕ → Bool
good_object p t place b =
    (in_heap p place && eqb (place % 8) 0)
    && (ltb b p.blocks && not (eqb (state_of t b) state_unallocated))
    && (leb (start p b) (minus_lower p place) && ltb (minus_lower p place) (start p b + p.bytes))

-- the phase of a destroy. 02, R-10: "Answer it in Marking as in Running: the lists go to abandoned and the shared release treats
-- them. In Releasing it remains WrongPhase."
unfoldable pub may_leave : Words → Bool
may_leave w = eqb w.phase phase_running || eqb w.phase phase_marking

-- "WrongPhase: call not of this phase", of a release; "or released already" is tested beside it, below
unfoldable pub may_release : Words → Bool
may_release w = eqb w.phase phase_marking || eqb w.phase phase_releasing

-- ---- the tests of each call on sound tables, in the order of the refusals' numbers: passed, or the first refusal

abbrev pub refused_if : Bool → Refusal → Result ⊤ Refusal
refused_if bad refusal = if bad then Err refusal else Ok tt

-- tests that follow others
unfoldable pub and_then : Result ⊤ Refusal → Result ⊤ Refusal → Result ⊤ Refusal
and_then (Ok tt) later = later
and_then (Err refusal) later = Err refusal

-- "WrongPhase: call not of this phase"
unfoldable pub phase_test : Words → ℕ → Result ⊤ Refusal
phase_test w phase = refused_if (not (eqb w.phase phase)) WrongPhase

-- "BadHolder: not 1 to 8; bound already (bind)
unfoldable pub bind_tests : Words → ℕ → Result ⊤ Refusal
bind_tests w holder = and_then (phase_test w phase_running) (refused_if (not (is_holder holder) || is_bound w holder) BadHolder)

-- ; not bound (others)": destroy,
unfoldable pub leave_tests : Words → ℕ → Result ⊤ Refusal
leave_tests w holder = and_then (refused_if (not (may_leave w)) WrongPhase) (refused_if (not (is_bound w holder)) BadHolder)

-- and alloc
unfoldable pub bound_tests : Words → ℕ → Result ⊤ Refusal
bound_tests w holder = and_then (phase_test w phase_running) (refused_if (not (is_bound w holder)) BadHolder)

-- what is asked for: BadRequest, TooBig, BadOffer
unfoldable pub request_tests : Params → Tables → ℕ → ℕ → ℕ → Option Block → Result ⊤ Refusal
request_tests p t size align offset offer =
    and_then (refused_if (not (good_request p size align offset)) BadRequest)
    (and_then (refused_if (too_big p size align) TooBig) (refused_if (not (good_offer p t offer)) BadOffer))

unfoldable pub mark_tests : Params → Tables → ℕ → ℕ → Result ⊤ Refusal
mark_tests p t place b = and_then (phase_test t.words phase_marking) (refused_if (not (good_object p t place b)) BadObject)

-- "WrongPhase: call not of this phase, or released already"
unfoldable pub release_tests : Words → ℕ → Result ⊤ Refusal
release_tests w holder =
    and_then (refused_if (not (may_release w) || (is_holder holder && has_released w holder)) WrongPhase)
    (refused_if (not (is_bound w holder)) BadHolder)

-- the shared part has no holder
unfoldable pub shared_tests : Words → Result ⊤ Refusal
shared_tests w = refused_if (not (may_release w) || has_released w 0) WrongPhase

unfoldable pub call_tests : Params → Tables → Call → Result ⊤ Refusal
call_tests p t (bind holder) = bind_tests t.words holder
call_tests p t (destroy holder) = leave_tests t.words holder
call_tests p t (alloc holder size align offset offer) =
    and_then (bound_tests t.words holder) (request_tests p t size align offset offer)
call_tests p t prepare = phase_test t.words phase_running
call_tests p t (mark place b) = mark_tests p t place b
call_tests p t (release holder) = release_tests t.words holder
call_tests p t shared_release = shared_tests t.words

-- ---- plans of calls that passed

-- a search's plan: "Exhausted: no cell found and no offer"
unfoldable pub take_plan : Params → ℕ → ℕ → Search → Plan
take_plan p align offset ended =
    let none : End = says (exhausted (sweeps ended.events)) in
    let end : End = if eqb ended.at 0 then none else takes (block_at p ended.at) align offset ended.fresh in
    record { tables = ended.tables; events = ended.events; end = end }

-- blocks were released, and so a part is done. The answer: blocks released, blocks merged, and (02, R-8) "the number swept as a
-- further number", 0 where nothing was swept
unfoldable pub release_plan : Params → ℕ → Tables → Freed → Plan
release_plan p part t f =
    let g : Freed = eagerly p t.marks part f in
    let tables : Tables = tables_of (part_released p part g.words) g.states t.marks in
    let reply : Reply = answered (releases g.events ∷ merged p part g.words ∷ sweeps g.events ∷ []) in
    record { tables = tables; events = g.events; end = says reply }

unfoldable pub plan_passed : Params → Tables → Call → Plan
plan_passed p t (bind holder) = changes (bind_holder holder t) []
plan_passed p t (destroy holder) = changes (destroy_holder p holder t) (abandoned_blocks p abandoned (local_sets holder) t.words ∷ [])
plan_passed p t (alloc holder size align offset offer) =
    take_plan p align offset (find_block p holder (bin_of p (raised p size align)) offer t)
plan_passed p t prepare = changes (prepared t) []
plan_passed p t (mark place b) = changes (mark_place p place b t) (flag (not (marked p t.marks place)) ∷ [])
plan_passed p t (release holder) = release_plan p holder t (release_holder p holder t.words t.states)
plan_passed p t shared_release = release_plan p 0 t (sweep_later p t.words t.states)

-- ---- plans

-- a call that a test refuses changes nothing
unfoldable pub if_passed : Result ⊤ Refusal → Tables → Plan → Plan
if_passed (Ok tt) t q = q
if_passed (Err refusal) t q = refuses t refusal

-- on tables that are sound
unfoldable pub plan_sound : Params → Tables → Call → Plan
plan_sound p t c = if_passed (call_tests p t c) t (plan_passed p t c)

-- "BadTables: not sound". 02, R-7: "A bad link is therefore BadTables from then on, and number 8 never occurs." (`NeverBadLink`)
unfoldable pub plan : Params → Tables → List ℕ → Call → Plan
plan p t h c = if sound_on p t h then plan_sound p t c else refuses t BadTables

-- ---- the end of a call

pub record Step : Type 0 where
  pub reply : Reply
  pub tables : Tables
  pub heap : List ℕ
  pub events : List Event

-- The cell at the free head of the block b, on the tables and the heap that the events left. "The next link is read before
-- the whole cell is zeroed." Since R-7 it is not tested here, and the block's free count is one less. "The answer: address, cell
-- size, whether the offer was used, blocks swept"
unfoldable pub take_cell : Params → Tables → List Event → List ℕ → ℕ → ℕ → ℕ → Bool → Step
take_cell p t es h b align offset fresh =
    let cell : ℕ = get_or t.words.free b 0 in
    let size : ℕ = get_or t.words.size b 0 in
    let left : ℕ = get_or t.words.cells b 0 - 1 in
    let reply : Reply = answered (align_allocation cell align offset ∷ size ∷ flag fresh ∷ sweeps es ∷ []) in
    let t' : Tables = with_words (set_cells b left (set_free b (load p h cell) t.words)) t in
    let e : Event = taken cell size in
    record { reply = reply; tables = t'; heap = event_heap p e h; events = es ++ (e ∷ []) }

unfoldable pub finish : Params → Tables → List Event → List ℕ → End → Step
finish p t es h (says reply) = record { reply = reply; tables = t; heap = h; events = es }
finish p t es h (takes b align offset fresh) = take_cell p t es h b align offset fresh

-- a plan is carried out on a heap
abbrev pub carried : Params → List ℕ → Plan → Step
carried p h q = finish p q.tables q.events (events_heap p q.events h) q.end

-- one call on sound tables
unfoldable pub sound_step : Params → Tables → List ℕ → Call → Step
sound_step p t h c = carried p h (plan_sound p t c)

-- and on any tables and a heap of the right lengths
unfoldable pub step : Params → Tables → List ℕ → Call → Step
step p t h c = carried p h (plan p t h c)

-- ---- the calls on what is lent: "BadSetup: a parameter or buffer length is off", and then nothing is touched

pub record Returned : Type 0 where
  pub reply : Reply
  pub lent : Lent

abbrev pub tables_in : Lent → Tables
tables_in l = tables_of (view l.words) l.states l.marks

abbrev pub lent_of : Tables → List ℕ → Lent
lent_of t h = record { words = flat t.words; states = t.states; marks = t.marks; heap = h }

abbrev pub result_from : Step → Returned
result_from done = record { reply = done.reply; lent = lent_of done.tables done.heap }

abbrev pub bad_setup : Lent → Returned
bad_setup l = record { reply = refused BadSetup; lent = l }

-- 02, R-5: "Turned away: 12 BadClasses, from set-up and any other call given rows the checker rejects, right after 1."
abbrev pub bad_classes : Lent → Returned
bad_classes l = record { reply = refused BadClasses; lent = l }

-- what every call tests first: parameters and lengths, and then the rows
abbrev pub admitted : Params → Lent → Returned → Returned
admitted p l r = if fits p l then (if classes_fit p then r else bad_classes l) else bad_setup l

-- every call but set-up
unfoldable pub call : Params → Lent → Call → Returned
call p l c = admitted p l (result_from (step p (tables_in l) l.heap c))

unfoldable pub set_up : Params → Lent → Returned
set_up p l = admitted p l (record { reply = answered []; lent = lent_of (fresh_tables p) l.heap })

-- pages used of 49 records, by their firsts: BadSetup or BadTables are its only refusals, and nothing is written
unfoldable pub pages : Params → List ℕ → List ℕ → Reply
pages p ws firsts =
    if not (good_params p && eqb (length ws) (word_count p) && eqb (length firsts) bins) then refused BadSetup
    else if not (pages_end p (view ws).next firsts) then refused BadTables
    else answered (pages_used p (view ws).next firsts ∷ [])

-- ---- questions, which change nothing and may be asked in every phase

pub data Question : Type 0 where
  -- the bin
  free_cells : ℕ → Question

-- the sum of the free counts of the bin's blocks, on whichever list each is. An Unallocated block's word is 0
unfoldable pub cells_of : Params → Words → ℕ → ℕ
cells_of p w bin = sum_below p.blocks (λ b. if eqb (bin_named w b) bin then get_or w.cells b 0 else 0)

-- 02, R-7: "Add a call, in every phase, for the total free cells of a bin over all lists: after 1, 12 and 2, the sum of the words of that
-- bin's blocks. A bin outside 1 to 48 is BadRequest there."
unfoldable pub ask : Params → Lent → Question → Reply
ask p l (free_cells bin) =
    let t : Tables = tables_in l in
    if not (fits p l) then refused BadSetup
    else if not (classes_fit p) then refused BadClasses
    else if not (sound_on p t l.heap) then refused BadTables
    else if not (leb 1 bin && leb bin last_bin) then refused BadRequest
    else answered (cells_of p t.words bin ∷ [])

-- 02, R-5: "A checker names the least count that is missed or covered twice, or, where there is none, the first row with an unfit cell."
-- By kind and number: 0 and 0 if the rows pass, 1 and the count, 2 and the row
unfoldable pub checked_rows : Params → Reply
checked_rows p =
    if eqb p.count 0 then answered (0 ∷ 0 ∷ [])
    else if not (eqb (bad_count p) 0) then answered (1 ∷ bad_count p ∷ [])
    else if not (eqb (bad_row p) 0) then answered (2 ∷ bad_row p ∷ [])
    else answered (0 ∷ 0 ∷ [])

unfoldable pub check_classes : Params → Reply
check_classes p = if good_params p then checked_rows p else refused BadSetup
