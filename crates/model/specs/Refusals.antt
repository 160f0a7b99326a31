-- Demand 1, of any call on anything lent: it "gives its result or document 01's refusal; on a refusal changes nothing, save that
-- after BadLink and Exhausted the block moves and sweeps already made stand." Since R-7 BadLink never comes (`NeverBadLink`). And
-- demand 2's count of released blocks and R-6's of those that went over, by state bytes and list words before and after; what R-7
-- says of sound tables.
--
-- They are about `call` (Calls.antt), for all parameters, buffers and calls: that buffers fit and that tables are sound is
-- tested by the call itself and is no premise. They are proved in the crate soundness, but for `NoBadTables`, which is proved in
-- runs.
use Rattle.std.specs.Prelude.{if◌then◌else◌, ℕ, ◌+◌, ◌<◌, ◌≡◌, ◌≢◌, ◌⊎◌, Bool, true, false, not, ◌&&◌, ◌||◌, List, [], ◌∷◌, eqb, ltb, leb, get_or}
use Rattle.model.specs.declared.Params.{Params}
use Rattle.model.specs.declared.Refusal.TheVariants.{BadTables, BadLink, Exhausted}
use Rattle.model.specs.Base.{flag, sum_below, In}
use Rattle.model.specs.Params.{good_params, Lent, fits, list_word, local_sets, abandoned, available, unswept, consumed}
use Rattle.model.specs.Tables.{Words, view}
use Rattle.model.specs.SizeClasses.{bin_of, raised}
use Rattle.model.specs.Block.{state_unallocated, sweep_chain}
use Rattle.model.specs.Events.{sweeps}
use Rattle.model.specs.Global.{phase_running}
use Rattle.model.specs.Sound.{set_named, ChainSound, chain_ok, sound_on}
use Rattle.model.specs.Calls.{refusal_number, answered, step, Call, bind, destroy, alloc, prepare, mark, release, shared_release, Returned, tables_in, call, set_up, bad_setup, bad_classes}
use Rattle.model.specs.Runs.{Turn, begun, HoldersWrite, Seen, seen_in}

-- the block b names the list
abbrev pub OnList : Words → ℕ → ℕ → Type 0
OnList w list b = get_or w.list b 0 ≡ list_word list

-- ---- "the block moves and sweeps already made": the search of an alloc of a holder for a bin, from the words w to the words w'

-- The five lists it goes by: "skim the local available list, moving full blocks to consumed; then local unswept; then [..]
-- abandoned available, abandoned unswept (swept)"
unfoldable pub searches : ℕ → ℕ → ℕ → Bool
searches holder bin list =
    eqb list (available (local_sets holder) bin) || eqb list (unswept (local_sets holder) bin) || eqb list (consumed (local_sets holder) bin)
    || eqb list (available abandoned bin) || eqb list (unswept abandoned bin)

-- it had no cell to give: on an available list without a free head, or on an unswept list with every cell marked
unfoldable pub HadNone : Params → List ℕ → ℕ → ℕ → Words → ℕ → Type 0
HadNone p ms holder bin w b =
    ((OnList w (available (local_sets holder) bin) b ⊎ OnList w (available abandoned bin) b) × (get_or w.free b 0 ≡ 0))
    ⊎ ((OnList w (unswept (local_sets holder) bin) b ⊎ OnList w (unswept abandoned bin) b)
    × (sweep_chain p ms b (get_or w.size b 0) ≡ []))

-- a block that was not moved
pub record Unmoved (w w' : Words) (b : ℕ) : Type 0 where
  pub list : get_or w'.list b 0 ≡ get_or w.list b 0
  pub free : get_or w'.free b 0 ≡ get_or w.free b 0
  pub tls : get_or w'.tls b 0 ≡ get_or w.tls b 0
  pub cells : get_or w'.cells b 0 ≡ get_or w.cells b 0

-- "moving full blocks to consumed": one that had no cell to give, and is the holder's now
pub record MovedFull (p : Params) (ms : List ℕ) (holder bin : ℕ) (w w' : Words) (b : ℕ) : Type 0 where
  pub was : HadNone p ms holder bin w b
  pub list : OnList w' (consumed (local_sets holder) bin) b
  pub free : get_or w'.free b 0 ≡ 0
  pub tls : get_or w'.tls b 0 ≡ holder
  pub cells : get_or w'.cells b 0 ≡ 0

abbrev pub PassedOver : Params → List ℕ → ℕ → ℕ → Words → Words → ℕ → Type 0
PassedOver p ms holder bin w w' b = Unmoved w w' b ⊎ MovedFull p ms holder bin w w' b

-- ---- what stays in an alloc that is refused Exhausted

-- Heap, state bytes and marks stay: no sweep of such a call frees a cell. So do cell sizes, phase, bound holders and released
-- marks, all lists but the five, and the links of every block that was on none of the five
pub record SearchKeeps (holder bin : ℕ) (l l' : Lent) : Type 0 where
  pub heap : l'.heap ≡ l.heap
  pub states : l'.states ≡ l.states
  pub marks : l'.marks ≡ l.marks
  pub size : (view l'.words).size ≡ (view l.words).size
  pub phase : (view l'.words).phase ≡ (view l.words).phase
  pub bound : (view l'.words).bound ≡ (view l.words).bound
  pub released : (view l'.words).released ≡ (view l.words).released
  pub first : (list : ℕ) → searches holder bin list ≡ false → get_or (view l'.words).first list 0 ≡ get_or (view l.words).first list 0
  pub last : (list : ℕ) → searches holder bin list ≡ false → get_or (view l'.words).last list 0 ≡ get_or (view l.words).last list 0
  pub next : (b : ℕ) → ((list : ℕ) → searches holder bin list ≡ true → OnList (view l.words) list b → ⊥)
      → get_or (view l'.words).next b 0 ≡ get_or (view l.words).next b 0
  pub prev : (b : ℕ) → ((list : ℕ) → searches holder bin list ≡ true → OnList (view l.words) list b → ⊥)
      → get_or (view l'.words).prev b 0 ≡ get_or (view l.words).prev b 0

-- "Exhausted: no cell found and no offer": each block stays where it was, or was moved full
pub record KeptExhausted (p : Params) (holder bin : ℕ) (l l' : Lent) : Type 0 where
  pub keeps : SearchKeeps holder bin l l'
  pub blocks : (b : ℕ) → PassedOver p l.marks holder bin (view l.words) (view l'.words) b

-- ---- demand 1

-- the call is an alloc, of which this holds with its holder and the bin of its raised size
unfoldable pub OfAlloc : Params → (ℕ → ℕ → Type 0) → Call → Type 0
OfAlloc p P (bind holder) = ⊥
OfAlloc p P (destroy holder) = ⊥
OfAlloc p P (release holder) = ⊥
OfAlloc p P (alloc holder size align offset offer) = P holder (bin_of p (raised p size align))
OfAlloc p P (mark place b) = ⊥
OfAlloc p P prepare = ⊥
OfAlloc p P shared_release = ⊥

pub record Refused (p : Params) (l : Lent) (c : Call) (r : Returned) : Type 0 where
  -- "A refusal returns its number only."
  pub values : r.reply.number ≢ refusal_number Exhausted → r.reply.values ≡ []
  -- 02, R-12: "Exhausted must report its swept count too (an export writes it in its place, zeros elsewhere)": the number of block sweeps
  -- in the call
  pub told : r.reply.number ≡ refusal_number Exhausted
      → r.reply.values ≡ 0 ∷ 0 ∷ 0 ∷ sweeps (step p (tables_in l) l.heap c).events ∷ []
  -- "on a refusal changes nothing,
  pub nothing : r.reply.number ≢ refusal_number Exhausted → r.lent ≡ l
  -- save that after BadLink and Exhausted the block moves and sweeps already made stand."
  pub exhausted : r.reply.number ≡ refusal_number Exhausted → OfAlloc p (λ holder bin. KeptExhausted p holder bin l r.lent) c

-- every call that is not answered, and a set-up that is not. Pages used (`pages`) gives a reply alone: there is nothing it could
-- change
unfoldable pub RefusalKeeps : Type 0
RefusalKeeps = (p : Params) (l : Lent) (c : Call) → (call p l c).reply.number ≢ 0 → Refused p l c (call p l c)

unfoldable pub SetUpKeeps : Type 0
SetUpKeeps =
    (p : Params) (l : Lent) → (set_up p l).reply.number ≢ 0 → (set_up p l ≡ bad_setup l) ⊎ (set_up p l ≡ bad_classes l)

-- ---- "released the number of blocks it made Unallocated": "An invented swept or released count: 2, which counts the blocks themselves."

-- the blocks whose state byte was another and is Unallocated now
unfoldable pub made_unallocated : Params → Lent → Lent → ℕ
made_unallocated p l l' =
    sum_below p.blocks
    (λ b. flag (not (eqb (get_or l.states b 0) state_unallocated) && eqb (get_or l'.states b 0) state_unallocated))

-- ---- 02, R-6: "how many blocks went over", counted by the blocks themselves

-- the block b is in use, and the list that it names is of the owner with this first set
unfoldable pub is_of : ℕ → Lent → ℕ → Bool
is_of owner l b =
    not (eqb (get_or l.states b 0) state_unallocated)
    && (leb owner (set_named (view l.words) b) && ltb (set_named (view l.words) b) (owner + 3))

-- the blocks of a holder
unfoldable pub blocks_of : Params → Lent → ℕ → ℕ
blocks_of p l holder = sum_below p.blocks (λ b. flag (is_of (local_sets holder) l b))

-- the blocks that are on an abandoned list after a call and were on none before it
unfoldable pub went_over : Params → Lent → Lent → ℕ
went_over p l l' = sum_below p.blocks (λ b. flag (not (is_of abandoned l b) && is_of abandoned l' b))

-- "Destroy answers the sum over its lists": as many as name a list of the holder, and all of them go over
unfoldable pub DestroyedCounts : Type 0
DestroyedCounts =
    (p : Params) (l : Lent) (holder : ℕ) → (call p l (destroy holder)).reply.number ≡ 0
    → ((call p l (destroy holder)).reply.values ≡ blocks_of p l holder ∷ [])
    × ((call p l (destroy holder)).reply.values ≡ went_over p l (call p l (destroy holder)).lent ∷ [])

-- 02, R-8: "the last one sweeps all occupied blocks": those in use after it, if the choice is on and the collection is over
unfoldable pub swept_at_end : Params → Lent → ℕ
swept_at_end p l' =
    if p.eager && eqb (view l'.words).phase phase_running
    then sum_below p.blocks (λ b. flag (not (eqb (get_or l'.states b 0) state_unallocated))) else 0

-- What a release or a shared release answers, whatever is lent: the blocks made Unallocated, and those that went over: "the last
-- release answers the number merged from in-gc". By one that is not the last no block goes over. And the blocks swept
unfoldable pub CountsReleased : Params → Lent → Call → Type 0
CountsReleased p l c =
    (call p l c).reply.number ≡ 0
    → (call p l c).reply.values
    ≡ made_unallocated p l (call p l c).lent ∷ went_over p l (call p l c).lent ∷ swept_at_end p (call p l c).lent ∷ []

unfoldable pub ReleasedCounts : Type 0
ReleasedCounts = (p : Params) (l : Lent) → ((holder : ℕ) → CountsReleased p l (release holder)) × CountsReleased p l shared_release

-- ---- 02, R-7

-- "Sound tables now also require that each word equals its chain's length, with the chain in whole cells of its block and none
-- repeated.": the test is this sentence, of each block
unfoldable pub ChainsTested : Type 0
ChainsTested =
    (p : Params) (h : List ℕ) (w : Words) (b : ℕ) → good_params p ≡ true → b < p.blocks
    → (chain_ok p h w b ≡ true → ChainSound p h w b) × (ChainSound p h w b → chain_ok p h w b ≡ true)

-- "A bad link is therefore BadTables from then on, and number 8 never occurs."
unfoldable pub NeverBadLink : Type 0
NeverBadLink = (p : Params) (l : Lent) (c : Call) → (call p l c).reply.number ≢ refusal_number BadLink

-- ---- tables stay sound

-- "Keep a word a block": a call on sound tables, whoever made them, leaves sound ones
unfoldable pub SoundKept : Type 0
SoundKept =
    (p : Params) (l : Lent) (c : Call) → fits p l ≡ true → sound_on p (tables_in l) l.heap ≡ true
    → sound_on p (tables_in (call p l c).lent) (call p l c).lent.heap ≡ true

-- After a set-up that was answered, no call of a run is refused BadTables, whatever is called, if holders write only what they hold: a
-- byte written elsewhere may break a chain
unfoldable pub NoBadTables : Type 0
NoBadTables =
    (p : Params) (l : Lent) (us : List Turn) → (set_up p l).reply ≡ answered [] → HoldersWrite p (begun p l) us
    → (x : Seen) → In x (seen_in p (begun p l) us) → x.reply.number ≢ refusal_number BadTables
