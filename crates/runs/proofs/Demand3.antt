-- Demand 3, as the model states it: every run follows the run over the shadow, which knows no heap, so two runs with the same
-- calls agree; and each turn keeps what is held.
use Rattle.std.specs.Prelude.{if◌then◌else◌}
use mathlib.Core.Path.{◌≡◌, refl, sym, ap, ◌∙◌, subst}
use mathlib.Core.Logic.{◌≢◌, ◌⊎◌, inl, inr, ⊎_elim}
use mathlib.Core.Bool.{Bool, true, false, not, ◌&&◌}
use mathlib.Core.List.{List, [], ◌∷◌, map}
use Prim.Native.Nat.{ℕ, ◌+◌, ◌-◌, ◌*◌, ◌/◌, ◌%◌, ◌≤◌, ◌<◌}
use native.Mathlib.Omega.{arith}
use lib.Dec.{leb}
use lib.ListN.{length, get_or, set, length-set, replicate, length-replicate, get_or-replicate}
use lib.Seq.{get_or-set_other}
use Rattle.model.specs.declared.Params.{Params}
use Rattle.model.specs.declared.Refusal.TheVariants.{BadSetup, BadTables, BadRequest, BadClasses}
use Rattle.model.specs.Base.{In, Pairwise, member}
use Rattle.model.specs.Params.{good_params, Lent, fits, word_count, heap_bytes, block_at, unswept, last_bin}
use Rattle.model.specs.Memory.{marked, cleared}
use Rattle.model.specs.Tables.{blocks_in, Tables, view, flat}
use Rattle.model.specs.Classes.{classes_fit}
use Rattle.model.specs.Events.{sweeps, releases}
use Rattle.model.specs.Global.{fresh_words, fresh_tables}
use Rattle.model.specs.Block.{ChainStands}
use Rattle.model.specs.Sound.{sound_on}
use Rattle.model.specs.Calls.{Reply, answered, refused, Call, Step, step, Returned, tables_in, lent_of, result_from, set_up, pages, Question, free_cells, cells_of, ask}
use Rattle.model.specs.Runs.{Cell, Book, book_after, Write, written, Turn, State, found_by, step_of, result_of, book_of, turned, empty_book, begun, covers, Holds, HoldersWrite, Seen, seen, seen_in, points, TurnKeeps, RunKeeps, Demand3}
use Rattle.laws.proofs.Params.{Bounds}
use Rattle.laws.proofs.Tables.{part_zeros, Sized, sized_view}
use Rattle.laws.proofs.Memory as Mem
use Rattle.laws.proofs.Marks.{marked_cleared}
use Rattle.laws.proofs.Cells.{Whole, whole_from_lem, whole_apart, whole_block_at, stands_frame}
use Rattle.laws.proofs.Lent.{fits_parts, answered_fits, answered_classes, set_up_is, lent_tables, lent_fits, call_is}
use Rattle.runs.proofs.Inv.{Held, Core}
use Rattle.runs.proofs.Plans.{Inv}
use Rattle.runs.proofs.Finish.{ShadowStep, StepOk, held_apart}
use Rattle.runs.proofs.Calls.{B, sound_tables, shadow_step, sound_same, step_ok}
use Rattle.runs.proofs.Counts.{counts}

-- ---- what holders write

module _ (p : Params) (fine : good_params p ≡ true) (rows : classes_fit p ≡ true) where
  abbrev pub bounds : Bounds p
  bounds = B p fine

  -- one byte outside a word
  off_word : (h : List ℕ) (i v j : ℕ) → (i < j) ⊎ (j + 8 ≤ i) → Mem.Same h (set h i v) j 8
  off_word h i v j (inl lt) k lo hi = sym (get_or-set_other h i k v 0 (λ e. omega (arith, e)))
  off_word h i v j (inr le) k lo hi = sym (get_or-set_other h i k v 0 (λ e. omega (arith, e)))

  module _ (free size cells st ms h : List ℕ) (sh : List (List ℕ)) (bk : Book) (I : Core p free size cells st ms h sh bk) where
    -- a byte of a held cell is in no free cell's link
    write_word : (c : Cell) → In c bk.cells → (a : ℕ) → covers c a → (v d : ℕ) → d < p.blocks → (y : ℕ) → In y (get_or sh d [])
        → Mem.Same h (set h (a - p.base) v) (y - p.base) 8
    unfolding covers
    write_word c m a cov v d ld y k =
        off_word h (a - p.base) v (y - p.base) (⊎_elim
        (λ q. inr (omega (arith, q, cov.0, from_y, from_c, Y.word)))
        (λ q. inl (omega (arith, q, cov.1, from_y, from_c)))
        (whole_apart p d (get_or size d 0) y (block_at p c.start) c.size c.start ld H.low Y H.whole
        (λ e. ap (λ (x : ℕ). get_or size x 0) e ∙ sym H.size) apart))
      where
        H : Held p size st c
        H = I.held c m

        Y : Whole p d (get_or size d 0) y
        Y = (I.chains.blocks d ld).cells y k

        from_y : p.base ≤ y
        from_y = whole_from_lem p bounds d _ y ld Y

        from_c : p.base ≤ c.start
        from_c = whole_from_lem p bounds _ _ _ H.low H.whole

        apart : y ≢ c.start
        apart e =
            let at : d ≡ block_at p c.start = sym (whole_block_at p bounds d _ y ld Y) ∙ ap (block_at p) e in
            I.off c m (subst (λ (x : ℕ). In x (get_or sh (block_at p c.start) [])) e (subst (λ (x : ℕ). In y (get_or sh x [])) at k))

    write_core : (w : Write) → Holds bk w → Core p free size cells st ms (set h (w.address - p.base) w.byte) sh bk
    unfolding Holds
    write_core w z =
        record {
          chains = record {
            heap = length-set h _ _ ∙ I.chains.heap;
            heads = I.chains.heads;
            sizes = I.chains.sizes;
            counts = I.chains.counts;
            shadow = I.chains.shadow;
            blocks = λ d ld.
                let K = I.chains.blocks d ld in
                record {
                  stands = stands_frame p h _ _ _ (λ y k. write_word z.0 z.1 w.address z.3 w.byte d ld y k) K.stands;
                  cells = K.cells;
                  once = K.once;
                  count = K.count;
                };
          };
          states = I.states;
          markings = I.markings;
          bytes = I.bytes;
          words = I.words;
          held = I.held;
          off = I.off;
          apart = I.apart;
          marks = I.marks;
          places = I.places;
        }

  writes_core : (ws : List Write) (free size cells st ms h : List ℕ) (sh : List (List ℕ)) (bk : Book) → Core p free size cells st ms h sh bk
      → ((w : Write) → In w ws → Holds bk w) → Core p free size cells st ms (written p ws h) sh bk
  unfolding written In
  writes_core [] free size cells st ms h sh bk I f = I
  writes_core (w ∷ ws) free size cells st ms h sh bk I f =
      writes_core ws free size cells st ms _ sh bk (write_core free size cells st ms h sh bk I w (f w (inl refl))) (λ x m. f x (inr m))

  -- ---- a turn, on lent buffers that hold tables and a heap

  abbrev pub state_of : Tables → List ℕ → Book → State
  state_of t h bk = record { lent = lent_of t h; book = bk }

  -- the run over the shadow
  pub shadow_seen : ShadowStep → Seen
  shadow_seen a =
      record {
        reply = a.reply;
        swept = sweeps a.events;
        released = releases a.events;
        words = flat a.tables.words;
        states = a.tables.states;
        marks = a.tables.marks;
      }

  shadow_seen_in : Tables → List (List ℕ) → List Call → List Seen
  shadow_seen_in t sh [] = []
  shadow_seen_in t sh (c ∷ cs) =
      let a : ShadowStep = shadow_step p t sh c in
      shadow_seen a ∷ shadow_seen_in a.tables a.shadow cs

  module _ (t : Tables) (h : List ℕ) (sh : List (List ℕ)) (bk : Book) (I : Inv p bounds t h sh bk) (u : Turn)
      (honest : (w : Write) → In w u.writes → Holds bk w) where
    abbrev g : List ℕ
    g = written p u.writes h

    pub J : Inv p bounds t g sh bk
    J = record {
      core = writes_core u.writes t.words.free t.words.size t.words.cells t.states t.marks h sh bk I.core honest;
      sized = I.sized;
      young = I.young;
      idle = I.idle;
    }

    s : Step
    s = step p t g u.call

    pub S : StepOk p bounds g bk u.call (step p t g u.call) (shadow_step p t sh u.call)
    S = step_ok p fine rows t g sh bk J u.call

    pub step_of_lem : step_of p (state_of t h bk) u ≡ step p t g u.call
    unfolding step_of found_by
    step_of_lem = ap (λ (x : Tables). step p x g u.call) (lent_tables p.blocks t h I.sized)

    pub result_of_lem : result_of p (state_of t h bk) u ≡ result_from (step p t g u.call)
    unfolding result_of found_by
    result_of_lem = call_is p t g fine rows J.sized J.core.states J.core.markings J.core.chains.heap u.call

    pub turn_of : turned p (state_of t h bk) u
        ≡ state_of (step p t g u.call).tables (step p t g u.call).heap (book_after p u.call (step p t g u.call) bk)
    unfolding turned book_of
    turn_of = λ i. record { lent = (result_of_lem i).lent; book = book_after p u.call (step_of_lem i) bk }

    turn_keeps : TurnKeeps p (state_of t h bk) u
    unfolding found_by book_of
    turn_keeps =
        record {
          result = result_of_lem ∙ sym (ap (λ (x : Step). result_from x) step_of_lem);
          keeps = rw (step_of_lem, result_of_lem) (record {
            served = S.served;
            counted = counts p t g u.call;
            zeroed = S.zeroed;
            apart = held_apart p bounds _ _ _ S.inv.core.held S.inv.core.apart;
            unchanged = S.unchanged;
            lost = S.lost;
          });
        }

    turn_seen : seen (result_of p (state_of t h bk) u) (step_of p (state_of t h bk) u).events ≡ shadow_seen (shadow_step p t sh u.call)
    unfolding shadow_seen
    turn_seen = rw (step_of_lem, result_of_lem) (λ i.
        record {
          reply = S.reply i;
          swept = sweeps (S.events i);
          released = releases (S.events i);
          words = flat (S.tables i).words;
          states = (S.tables i).states;
          marks = (S.tables i).marks;
        })

  -- ---- whole runs

  follows : (us : List Turn) (t : Tables) (h : List ℕ) (sh : List (List ℕ)) (bk : Book) → Inv p bounds t h sh bk → HoldersWrite p (state_of t h bk) us
      → seen_in p (state_of t h bk) us ≡ shadow_seen_in t sh (map (λ (u : Turn). u.call) us)
  unfolding seen_in shadow_seen_in HoldersWrite
  follows [] t h sh bk I H = refl
  follows (u ∷ us) t h sh bk I H =
      let g : List ℕ = written p u.writes h in
      let c : Call = u.call in
      let a : ShadowStep = shadow_step p t sh c in
      let O : StepOk p bounds g bk c (step p t g c) a = S t h sh bk I u H.0 in
      let e = turn_of t h sh bk I u H.0 in
      let rest : seen_in p (turned p (state_of t h bk) u) us ≡ shadow_seen_in a.tables a.shadow (map (λ (x : Turn). x.call) us) =
      ap (λ (x : State). seen_in p x us) e
      ∙ follows us (step p t g c).tables (step p t g c).heap a.shadow (book_after p c (step p t g c) bk) O.inv (subst (λ (x : State). HoldersWrite p x us) e H.1)
      ∙ ap (λ (x : Tables). shadow_seen_in x a.shadow (map (λ (x : Turn). x.call) us)) O.tables in
      λ i. turn_seen t h sh bk I u H.0 i ∷ rest i

  keeps : (us : List Turn) (t : Tables) (h : List ℕ) (sh : List (List ℕ)) (bk : Book) → Inv p bounds t h sh bk → HoldersWrite p (state_of t h bk) us
      → RunKeeps p (state_of t h bk) us
  unfolding RunKeeps HoldersWrite
  keeps [] t h sh bk I H = tt
  keeps (u ∷ us) t h sh bk I H =
      let g : List ℕ = written p u.writes h in
      let c : Call = u.call in
      let e = turn_of t h sh bk I u H.0 in (
        turn_keeps t h sh bk I u H.0,
        subst (λ (x : State). RunKeeps p x us) (sym e)
            (keeps us (step p t g c).tables (step p t g c).heap (shadow_step p t sh c).shadow (book_after p c (step p t g c) bk) (S t h sh bk I u H.0).inv
            (subst (λ (x : State). HoldersWrite p x us) e H.1)),
      )

  -- ---- what is asked at each point: the tables alone decide

  shadow_ask : Tables → Question → Reply
  shadow_ask t (free_cells bin) =
      if not (sound_tables p t) then refused BadTables
      else if not (leb 1 bin && leb bin last_bin) then refused BadRequest
      else answered (cells_of p t.words bin ∷ [])

  shadow_asks : Tables → List (List ℕ) → List Call → Question → List Reply
  shadow_asks t sh [] q = shadow_ask t q ∷ []
  shadow_asks t sh (c ∷ cs) q =
      let a : ShadowStep = shadow_step p t sh c in
      shadow_ask t q ∷ shadow_ask t q ∷ shadow_asks a.tables a.shadow cs q

  -- once it is known whether buffers fit, rows pass and tables are sound
  told : Bool → Bool → Bool → Tables → ℕ → Reply
  told fit pass ok t bin =
      if not fit then refused BadSetup
      else if not pass then refused BadClasses
      else if not ok then refused BadTables
      else if not (leb 1 bin && leb bin last_bin) then refused BadRequest
      else answered (cells_of p t.words bin ∷ [])

  ask_is : (t : Tables) (h : List ℕ) (sh : List (List ℕ)) (bk : Book) → Inv p bounds t h sh bk → (q : Question) → ask p (lent_of t h) q ≡ shadow_ask t q
  unfolding ask shadow_ask told
  ask_is t h sh bk I (free_cells bin) =
      ap (λ (f : Bool). told f (classes_fit p) (sound_on p (tables_in (lent_of t h)) h) (tables_in (lent_of t h)) bin) (lent_fits p t h fine I.sized I.core.states I.core.markings I.core.chains.heap)
      ∙ ap (λ (b : Bool). told true b (sound_on p (tables_in (lent_of t h)) h) (tables_in (lent_of t h)) bin) rows
      ∙ ap (λ (u : Tables). told true true (sound_on p u h) u bin) (lent_tables p.blocks t h I.sized)
      ∙ ap (λ (b : Bool). told true true b t bin) (sound_same p fine rows t h sh bk I)

  asks_follow : (us : List Turn) (t : Tables) (h : List ℕ) (sh : List (List ℕ)) (bk : Book) → Inv p bounds t h sh bk → HoldersWrite p (state_of t h bk) us
      → (q : Question) → map (λ (x : Lent). ask p x q) (points p (state_of t h bk) us) ≡ shadow_asks t sh (map (λ (u : Turn). u.call) us) q
  unfolding points shadow_asks HoldersWrite found_by
  asks_follow [] t h sh bk I H q = ap (λ (x : Reply). x ∷ []) (ask_is t h sh bk I q)
  asks_follow (u ∷ us) t h sh bk I H q =
      let g : List ℕ = written p u.writes h in
      let c : Call = u.call in
      let a : ShadowStep = shadow_step p t sh c in
      let O : StepOk p bounds g bk c (step p t g c) a = S t h sh bk I u H.0 in
      let e = turn_of t h sh bk I u H.0 in
      let rest : map (λ (x : Lent). ask p x q) (points p (turned p (state_of t h bk) u) us) ≡ shadow_asks a.tables a.shadow (map (λ (x : Turn). x.call) us) q =
      ap (λ (x : State). map (λ (y : Lent). ask p y q) (points p x us)) e
      ∙ asks_follow us (step p t g c).tables (step p t g c).heap a.shadow (book_after p c (step p t g c) bk) O.inv (subst (λ (x : State). HoldersWrite p x us) e H.1) q
      ∙ ap (λ (x : Tables). shadow_asks x a.shadow (map (λ (x : Turn). x.call) us) q) O.tables in
      λ i. ask_is t h sh bk I q i ∷ ask_is t g sh bk (J t h sh bk I u H.0) q i ∷ rest i

  -- ---- after set-up

  pub fresh_inv : (h : List ℕ) → length h ≡ heap_bytes p → Inv p bounds (fresh_tables p) h (replicate p.blocks []) empty_book
  unfolding fresh_tables fresh_words word_count view In Pairwise member ChainStands cleared
  fresh_inv h len =
      record {
        core = record {
          chains = record {
            heap = len;
            heads = Z.free;
            sizes = Z.size;
            counts = Z.cells;
            shadow = length-replicate p.blocks [];
            blocks = λ b lb. rw (part_zeros (2958 + 2 * n) n k b, part_zeros (2958 + 3 * n) n k b, part_zeros (2958 + 6 * n) n k b, get_or-replicate {A = List ℕ} p.blocks b [] [] lb)
                (record { stands = refl; cells = λ x m. absurd m; once = tt; count = refl });
          };
          states = length-replicate p.blocks 0;
          markings = length-replicate (heap_bytes p / 64) 0;
          bytes = Mem.bytes_zeros (heap_bytes p / 64);
          words = λ b. ap (λ (x : ℕ). x % 8) (part_zeros (2958 + 3 * n) n k b);
          held = λ c m. absurd m;
          off = λ c m. absurd m;
          apart = tt;
          marks = λ a e. unmarked a;
          places = λ q m. absurd m;
        };
        sized = Z;
        young = λ c m. absurd m;
        idle = λ j m lj lm. part_zeros 0 1470 k (unswept (3 * j) m);
      }
    where
      k : ℕ
      k = 2958 + 7 * p.blocks

      n : ℕ
      n = blocks_in (replicate k 0)

      Z : Sized p.blocks (view (replicate k 0))
      Z = sized_view p.blocks (replicate k 0) (length-replicate k 0)

      unmarked : (a : ℕ) → marked p (replicate (heap_bytes p / 64) 0) a ≡ false
      unmarked a = subst (λ (k : ℕ). marked p (replicate k 0) a ≡ false) (length-replicate (heap_bytes p / 64) 0) (marked_cleared p (replicate (heap_bytes p / 64) 0) a)

-- ---- the theorem

pub demand3 : Demand3
unfolding Demand3 begun
demand3 p l l' us us' e e' H H' same = (
  record {
    set_ups = seen_same;
    calls = calls_same;
    pages_at_set_up = λ firsts. ap (λ (x : Seen). pages p x.words firsts) seen_same;
    pages_after = λ firsts. ap (map (λ (x : Seen). pages p x.words firsts)) calls_same;
    asked = λ q. asks_are l fit us H q ∙ ap (λ (cs : List Call). shadow_asks p fine rows (fresh_tables p) (replicate p.blocks []) cs q) same ∙ sym (asks_are l' fit' us' H' q);
  },
  run_keeps l fit us H,
  run_keeps l' fit' us' H',
)
  where
    fit : fits p l ≡ true
    fit = answered_fits p l e

    fit' : fits p l' ≡ true
    fit' = answered_fits p l' e'

    fine : good_params p ≡ true
    fine = (fits_parts p l fit).0

    rows : classes_fit p ≡ true
    rows = answered_classes p l e

    start_is : (l : Lent) → fits p l ≡ true → begun p l ≡ state_of p fine rows (fresh_tables p) l.heap empty_book
    start_is l f = ap (λ (x : Returned). record { lent = x.lent; book = empty_book }) (set_up_is p l f rows)

    inv : (l : Lent) → fits p l ≡ true → Inv p (bounds p fine rows) (fresh_tables p) l.heap (replicate p.blocks []) empty_book
    inv l f = fresh_inv p fine rows l.heap (fits_parts p l f).1

    held : (l : Lent) → fits p l ≡ true → (us : List Turn) → HoldersWrite p (begun p l) us → HoldersWrite p (state_of p fine rows (fresh_tables p) l.heap empty_book) us
    held l f us H = subst (λ (x : State). HoldersWrite p x us) (start_is l f) H

    run_is : (l : Lent) (f : fits p l ≡ true) (us : List Turn) → HoldersWrite p (begun p l) us
        → seen_in p (begun p l) us ≡ shadow_seen_in p fine rows (fresh_tables p) (replicate p.blocks []) (map (λ (u : Turn). u.call) us)
    run_is l f us H = ap (λ (x : State). seen_in p x us) (start_is l f) ∙ follows p fine rows us (fresh_tables p) l.heap (replicate p.blocks []) empty_book (inv l f) (held l f us H)

    asks_are : (l : Lent) (f : fits p l ≡ true) (us : List Turn) → HoldersWrite p (begun p l) us → (q : Question)
        → map (λ (x : Lent). ask p x q) (points p (begun p l) us) ≡ shadow_asks p fine rows (fresh_tables p) (replicate p.blocks []) (map (λ (u : Turn). u.call) us) q
    asks_are l f us H q =
        ap (λ (x : State). map (λ (y : Lent). ask p y q) (points p x us)) (start_is l f)
        ∙ asks_follow p fine rows us (fresh_tables p) l.heap (replicate p.blocks []) empty_book (inv l f) (held l f us H) q

    run_keeps : (l : Lent) → fits p l ≡ true → (us : List Turn) → HoldersWrite p (begun p l) us → RunKeeps p (begun p l) us
    run_keeps l f us H =
        subst (λ (x : State). RunKeeps p x us) (sym (start_is l f))
        (keeps p fine rows us (fresh_tables p) l.heap (replicate p.blocks []) empty_book (inv l f) (held l f us H))

    calls_same : seen_in p (begun p l) us ≡ seen_in p (begun p l') us'
    calls_same = run_is l fit us H ∙ ap (shadow_seen_in p fine rows (fresh_tables p) (replicate p.blocks [])) same ∙ sym (run_is l' fit' us' H')

    seen_same : seen (set_up p l) [] ≡ seen (set_up p l') []
    seen_same = ap (λ (x : Returned). seen x []) (set_up_is p l fit rows) ∙ sym (ap (λ (x : Returned). seen x []) (set_up_is p l' fit' rows))
