-- How long a listing can be: a buffer of 20,000 bytes holds each. Calls keep tables sound, so in the end an occupied block has
-- at most 512 cells, along its chain or by its marks, and a free cell's row at most 8 bytes; a refused line's row has at most 7. Every other number is taken to
-- have twenty digits. Assumes nothing.
use Rattle.std.specs.Prelude.{Option, Some, None}
use mathlib.Core.Path.{◌≡◌, refl, sym, ap, ◌∙◌}
use mathlib.Core.Logic.{◌≢◌, inl, inr, ⊎_elim}
use mathlib.Core.Bool.{Bool, true, false, not, ◌&&◌}
use mathlib.Core.List.{List, [], ◌∷◌, ◌++◌, map, flatten, flat_map}
use Prim.Native.Nat.{ℕ, zero, suc, ◌+◌, ◌-◌, ◌*◌, ◌/◌, ◌%◌, ◌^◌, ◌≤◌, ◌<◌}
use native.Mathlib.Nat.{pow-suc, suc-mul, div-mul-le_self, div-le_of_le-mul}
use native.Mathlib.Omega.{arith}
use lib.Dec.{eqb, ltb, leb}
use lib.ListN.{length, get_or, take, length-append, length-take}
use borrow.Author.Tests.{lt-ltb, ltb-true, leb-true, eqb-true, eq-eqb}
use Rattle.model.specs.declared.Refusal.{Refusal}
use Rattle.model.specs.declared.Refusal.TheVariants.{BadSetup, BadTables, WrongPhase, BadHolder, BadRequest, TooBig, BadOffer, BadLink, Exhausted, BadObject, BadLine, BadClasses}
use Rattle.model.specs.Base.{filter, In}
use Rattle.model.specs.Params.{Lent, heap_bytes, fits, start}
use Rattle.model.specs.Memory.{load, marked}
use Rattle.model.specs.Tables.{Tables, tables_of, view, flat}
use Rattle.model.specs.SizeClasses.{cell_bytes}
use Rattle.model.specs.Classes.{classes_fit}
use Rattle.model.specs.Block.{cell_count, is_cell, cells_down, keeps, sweep_chain, chain_from, free_chain}
use Rattle.model.specs.Global.{phase_marking, fresh_words, fresh_tables}
use Rattle.model.specs.Sound.{state_of, bin_named, size_ok, sound_on}
use Rattle.model.specs.Calls.{refusal_number, Call, step, Returned, tables_in, call, set_up}
use Rattle.model.specs.Census.{digits, decimal, spaced, section, RefusedLine, refused_row, up_to, occupied, block_row, awaits_sweep, printed_chain, free_rows, free_section, census_params, lines_of, Ran, run_lines, line_result, line_of, pieces, newline, space, drop_blank_end, census_lent, listing, census}
use Rattle.laws.proofs.Base.{if_cases, and_right, in_append, in_filter}
use Rattle.laws.proofs.Below.{true_not_false, and_three}
use Rattle.laws.proofs.Params.{Bounds, good_bounds, start_in}
use Rattle.laws.proofs.Tables.{view_flat}
use Rattle.laws.proofs.Classes.{cell_bytes_some}
use Rattle.listing.proofs.SectionsLaws.{fine, flatten_append}
use Rattle.soundness.proofs.SoundLists.{sound_parts, block_parts}
use Rattle.soundness.proofs.Replies.{fair_reply, bad_reply}
use Rattle.laws.proofs.Lent.{fits_parts}
use Rattle.soundness.proofs.Kept.{Kept, fresh_kept, step_kept}
use Rattle.model.specs.Text.{listing_bytes}

-- ---- numbers and rows

-- at most k digits, as the model says
digits_few : (k n : ℕ) → length (digits k n) ≤ k
unfolding digits
digits_few zero n = omega arith
digits_few (suc k) n =
    if_cases (λ (l : List ℕ). length l ≤ suc k) (ltb n 10) (λ e. omega arith)
    (λ e. omega (arith, length-append (digits k (n / 10)) ((48 + n % 10) ∷ []), digits_few k (n / 10)))

-- so a number has at most 20
decimal_few : (n : ℕ) → length (decimal n) ≤ 20
unfolding decimal
decimal_few n = digits_few 20 n

-- a number below 10 ^ (j + 1) has at most j + 1 digits
digits_short : (k j n : ℕ) → n < 10 ^ suc j → length (digits k n) ≤ suc j
unfolding digits
digits_short zero j n h = omega arith
digits_short (suc k) zero n h = rw (lt-ltb n 10 h) (omega arith)
digits_short (suc k) (suc j) n h =
    let less : n / 10 < 10 ^ suc j = omega (arith, pow-suc 10 (suc j)) in
    if_cases (λ (l : List ℕ). length l ≤ suc (suc j)) (ltb n 10) (λ e. omega arith)
    (λ e. omega (arith, length-append (digits k (n / 10)) ((48 + n % 10) ∷ []), digits_short k j (n / 10) less))

-- so in decimal
decimal_short : (j n : ℕ) → n < 10 ^ suc j → length (decimal n) ≤ suc j
unfolding decimal
decimal_short j n h = digits_short 20 j n h

-- a row: each word, and the space or the newline behind it
row_more : (w v : List ℕ) (ws : List (List ℕ)) → length (spaced (w ∷ (v ∷ ws))) ≡ length w + 1 + length (spaced (v ∷ ws))
unfolding spaced
row_more w v ws = omega (arith, length-append w (32 ∷ spaced (v ∷ ws)))

-- its last word
row_last : (w : List ℕ) → length (spaced (w ∷ [])) ≡ length w + 1
unfolding spaced
row_last w = omega (arith, length-append w (10 ∷ []))

-- of two numbers of at most i + 1 and j + 1 digits
pair_short : (i j a b : ℕ) → a < 10 ^ suc i → b < 10 ^ suc j → length (spaced (decimal a ∷ decimal b ∷ [])) ≤ i + j + 4
pair_short i j a b h l =
    omega (arith, row_more (decimal a) (decimal b) [], row_last (decimal b), decimal_short i a h, decimal_short j b l)

-- of a block: four numbers and a letter
five_few : (a b c d l : ℕ) → length (spaced (decimal a ∷ decimal b ∷ decimal c ∷ (l ∷ []) ∷ decimal d ∷ [])) ≤ 86
five_few a b c d l =
    omega (
      arith,
      row_more (decimal a) (decimal b) (decimal c ∷ (l ∷ []) ∷ decimal d ∷ []),
      row_more (decimal b) (decimal c) ((l ∷ []) ∷ decimal d ∷ []),
      row_more (decimal c) (l ∷ []) (decimal d ∷ []),
      row_more (l ∷ []) (decimal d) [],
      row_last (decimal d),
      decimal_few a,
      decimal_few b,
      decimal_few c,
      decimal_few d,
    )

-- so each block's row
block_few : (t : Tables) (b : ℕ) → length (block_row t b) ≤ 86
unfolding block_row
block_few t b = five_few _ _ _ _ _

-- ---- many rows

-- of at most m bytes each
flatten_few : {A : Type 0} (m : ℕ) (f : A → List ℕ) → ((x : A) → length (f x) ≤ m) → (xs : List A)
    → length (flatten (map f xs)) ≤ m * length xs
unfolding flatten
flatten_few m f h [] = omega arith
flatten_few m f h (x ∷ xs) = omega (arith, length-append (f x) (flatten (map f xs)), h x, flatten_few m f h xs)

-- a section: its name, its count and its rows
section_few : (name : List ℕ) (rows : List (List ℕ)) → length (section name rows) ≤ length name + 22 + length (flatten rows)
unfolding section
section_few name rows =
    omega (
      arith,
      length-append (spaced (name ∷ decimal (length rows) ∷ [])) (flatten rows),
      row_more name (decimal (length rows)) [],
      row_last (decimal (length rows)),
      decimal_few (length rows),
    )

-- ---- refused lines

-- a refusal's number has two digits
refusal_few : (r : Refusal) → refusal_number r ≤ 12
unfolding refusal_number
refusal_few BadSetup = omega arith
refusal_few BadTables = omega arith
refusal_few WrongPhase = omega arith
refusal_few BadHolder = omega arith
refusal_few BadRequest = omega arith
refusal_few TooBig = omega arith
refusal_few BadOffer = omega arith
refusal_few BadLink = omega arith
refusal_few Exhausted = omega arith
refusal_few BadObject = omega arith
refusal_few BadLine = omega arith
refusal_few BadClasses = omega arith

-- each call's number
step_says : (t : Tables) (h : List ℕ) (c : Call) → (step census_params t h c).reply.number ≤ 12
step_says t h c = go (sound_on census_params t h) refl
  where
    go : (b : Bool) → sound_on census_params t h ≡ b → (step census_params t h c).reply.number ≤ 12
    go true e = omega (arith, (fair_reply census_params t h c e).0)
    go false e = rw (bad_reply census_params t h c e) (refusal_few BadTables)

-- each line, a bad one too
line_says : (l : Lent) (o : Option Call) → (line_result l o).reply.number ≤ 12
unfolding line_result call
line_says l (Some c) =
    if_cases (λ (r : Returned). r.reply.number ≤ 12) (fits census_params l)
    (λ e. if_cases (λ (r : Returned). r.reply.number ≤ 12) (classes_fit census_params) (λ k. step_says (tables_in l) l.heap c) (λ k. refusal_few BadClasses))
    (λ e. refusal_few BadSetup)
line_says l None = refusal_few BadLine

-- the rows of the lines from number i on, whose numbers have at most 3 digits
refused_few : (i : ℕ) (xs : List (List ℕ)) (l : Lent) → i + length xs ≤ 1000
    → length (flatten (map refused_row (run_lines i xs l).refusals)) ≤ 7 * length xs
unfolding run_lines flatten refused_row
refused_few i [] l h = omega arith
refused_few i (x ∷ xs) l h =
    let r : Returned = line_result l (line_of (pieces space x)) in
    let n : ℕ = r.reply.number in
    let next : List ℕ = flatten (map refused_row (run_lines (i + 1) xs r.lent).refusals) in
    let more : length next ≤ 7 * length xs = refused_few (i + 1) xs r.lent (omega arith) in
    let row = pair_short 2 1 i n (omega arith) (omega (arith, line_says l (line_of (pieces space x)))) in
    if_cases (λ (rs : List RefusedLine). length (flatten (map refused_row rs)) ≤ 7 * suc (length xs)) (eqb n 0) (λ e. omega arith)
    (λ e. omega (arith, length-append (spaced (decimal i ∷ decimal n ∷ [])) next))

-- ---- tables stay sound

-- the census's parameters are good, so they are bounded
abbrev B : Bounds census_params
B = good_bounds census_params fine

-- the tables lent are sound, and of the right lengths
abbrev Sound : Lent → Type 0
Sound l = Kept census_params B (tables_in l)

-- tables that are put into lent words are found there again
lent_sound : (t : Tables) → Kept census_params B t → Kept census_params B (tables_of (view (flat t.words)) t.states t.marks)
lent_sound t K = rw (view_flat census_params.blocks t.words K.sized) K

-- after set-up
set_up_sound : Sound (set_up census_params census_lent).lent
unfolding set_up census_lent fresh_tables fresh_words heap_bytes census_params
set_up_sound =
    if_cases (λ (r : Returned). Sound r.lent) (fits census_params census_lent)
    (λ e. if_cases (λ (r : Returned). Sound r.lent) (classes_fit census_params) (λ k. lent_sound _ (fresh_kept census_params B)) (λ k. fresh_kept census_params B))
    (λ e. fresh_kept census_params B)

-- after a line. Where the lengths do not fit, nothing is changed
line_sound : (l : Lent) (o : Option Call) → Sound l → Sound (line_result l o).lent
unfolding line_result call
line_sound l (Some c) K =
    if_cases (λ (r : Returned). Sound r.lent) (fits census_params l)
    (λ e. if_cases (λ (r : Returned). Sound r.lent) (classes_fit census_params)
    (λ k. lent_sound _ (step_kept census_params B k (tables_in l) l.heap c (fits_parts census_params l e).1 K)) (λ k. K))
    (λ e. K)
line_sound l None K = K

-- after all lines
lines_sound : (i : ℕ) (xs : List (List ℕ)) (l : Lent) → Sound l → Sound (run_lines i xs l).lent
unfolding run_lines
lines_sound i [] l K = K
lines_sound i (x ∷ xs) l K = lines_sound (i + 1) xs _ (line_sound l (line_of (pieces space x)) K)

-- ---- occupied blocks

-- a test leaves no more than there are
filter_few : {A : Type 0} (f : A → Bool) (xs : List A) → length (filter f xs) ≤ length xs
unfolding filter
filter_few f [] = omega arith
filter_few {A} f (x ∷ xs) =
    let few = filter_few f xs in
    if_cases (λ (l : List A). length l ≤ suc (length xs)) (f x) (λ e. omega arith) (λ e. omega arith)

-- there are at most four
occupied_few : (t : Tables) → length (occupied t) ≤ 4
unfolding occupied up_to census_params
occupied_few t = filter_few _ (up_to 4)

-- the numbers up to n are below it
up_to_low : (n b : ℕ) → In b (up_to n) → b < n
unfolding up_to In
up_to_low zero b i = absurd i
up_to_low (suc n) b i =
    ⊎_elim (λ j. omega (arith, up_to_low n b j)) (λ j. ⊎_elim (λ e. omega arith) (λ z. absurd z) j) (in_append b (up_to n) (n ∷ []) i)

-- each is one of the four
occupied_low : (t : Tables) (b : ℕ) → In b (occupied t) → b < 4
unfolding occupied census_params
occupied_low t b i = up_to_low 4 b (in_filter _ b (up_to 4) i).0

-- and not Unallocated
occupied_state : (t : Tables) (b : ℕ) → In b (occupied t) → state_of t b ≢ 0
unfolding occupied
occupied_state t b i z = true_not_false (sym (in_filter _ b (up_to census_params.blocks) i).1 ∙ ap not (eq-eqb _ _ z))

-- their cells are of at least 8 bytes
occupied_size : (t : Tables) (b : ℕ) → Kept census_params B t → In b (occupied t) → 8 ≤ get_or t.words.size b 0
unfolding size_ok bin_named
occupied_size t b K i =
    let s : ℕ = get_or t.words.size b 0 in
    let bin : ℕ = bin_named t.words b in
    let low : b < census_params.blocks = unfold census_params in (occupied_low t b i) in
    let ok = (block_parts census_params t b ((sound_parts census_params t K.passes).blocks b low) (occupied_state t b i)).size in
    let q = and_three (leb 1 bin) (ltb 0 s) (eqb s (cell_bytes census_params bin)) ok in
    let is : s ≡ cell_bytes census_params bin = eqb-true s (cell_bytes census_params bin) q.2 in
    rw is (cell_bytes_some census_params bin (rw is at (ltb-true 0 s q.1)))

-- ---- their free cells

-- the row of the cell at a of the block b
abbrev cell_row : ℕ → ℕ → List ℕ
cell_row b a = spaced (decimal b ∷ decimal a ∷ [])

-- a block number of one digit, and an address of five
cell_few : (b s a : ℕ) → b < 4 → is_cell census_params b s a ≡ true → length (cell_row b a) ≤ 8
unfolding is_cell census_params
cell_few b s a low e =
    let f : ℕ = start census_params b in
    let at : f ≡ 16384 + b * 4096 = start_in census_params b low in
    let end : (a - f) + s ≤ 4096 = leb-true _ _ (and_right (ltb 0 s && leb f a && eqb ((a - f) % s) 0) (leb ((a - f) + s) 4096) e) in
    pair_short 0 4 b a (omega arith) (omega arith)

-- the rows of a chain of at most k cells
chain_rows : (k : ℕ) (h : List ℕ) (b s a : ℕ) → b < 4 → length (flatten (map (cell_row b) (chain_from k census_params h b s a))) ≤ 8 * k
unfolding chain_from flatten
chain_rows zero h b s a low = omega arith
chain_rows (suc k) h b s a low =
    let next : List ℕ = chain_from k census_params h b s (load census_params h a) in
    if_cases (λ (l : List ℕ). length (flatten (map (cell_row b) l)) ≤ 8 * suc k) (is_cell census_params b s a)
    (λ e. omega (arith, length-append (cell_row b a) (flatten (map (cell_row b) next)), cell_few b s a low e, chain_rows k h b s (load census_params h a) low))
    (λ e. omega arith)

-- the rows of the lowest k cells that a sweep frees
swept_rows : (k : ℕ) (kept : ℕ → Bool) (b s : ℕ) → b < 4 → k * s ≤ 4096
    → length (flatten (map (cell_row b) (cells_down kept (start census_params b) s k))) ≤ 8 * k
unfolding cells_down flatten census_params
swept_rows zero kept b s low fits = omega arith
swept_rows (suc k) kept b s low fits =
    let next : List ℕ = cells_down kept (start census_params b) s k in
    let a : ℕ = start census_params b + k * s in
    let room : k * s ≤ 4096 = omega (arith, suc-mul k s, fits) in
    let at : start census_params b ≡ 16384 + b * 4096 = start_in census_params b low in
    let more : length (flatten (map (cell_row b) next)) ≤ 8 * k = swept_rows k kept b s low room in
    if_cases (λ (l : List ℕ). length (flatten (map (cell_row b) l)) ≤ 8 * suc k) (kept a) (λ e. omega arith)
    (λ e. omega (arith, length-append (cell_row b a) (flatten (map (cell_row b) next)), pair_short 0 4 b a (omega arith) (omega arith)))

-- those of one block
rows_few : (t : Tables) (h : List ℕ) (b : ℕ) → b < 4 → 8 ≤ get_or t.words.size b 0 → length (flatten (free_rows t h b)) ≤ 4096
unfolding free_rows printed_chain sweep_chain free_chain cell_count census_params
rows_few t h b low size =
    let s : ℕ = get_or t.words.size b 0 in
    let cells : 4096 / s ≤ 512 = div-le_of_le-mul s {m = 4096} {n = 512} (omega arith) in
    if_cases (λ (l : List ℕ). length (flatten (map (cell_row b) l)) ≤ 4096) (awaits_sweep t.words b)
    (λ e. omega (arith, swept_rows (4096 / s) (keeps census_params (marked census_params t.marks) s) b s low (div-mul-le_self 4096 s)))
    (λ e. omega (arith, chain_rows (4096 / s) h b s (get_or t.words.free b 0) low))

-- those of the blocks bs
free_few : (t : Tables) (h : List ℕ) (bs : List ℕ) → ((b : ℕ) → In b bs → length (flatten (free_rows t h b)) ≤ 4096)
    → length (flatten (flat_map (free_rows t h) bs)) ≤ 4096 * length bs
unfolding flat_map flatten In
free_few t h [] f = omega arith
free_few t h (b ∷ bs) f =
    omega (
      arith,
      ap length (flatten_append (free_rows t h b) (flat_map (free_rows t h) bs)),
      length-append (flatten (free_rows t h b)) (flatten (flat_map (free_rows t h) bs)),
      f b (inl refl),
      free_few t h bs (λ c i. f c (inr i)),
    )

-- in Marking none
section_rows : (t : Tables) (h : List ℕ) → Kept census_params B t → length (flatten (free_section t h)) ≤ 16384
unfolding free_section flatten
section_rows t h K =
    if_cases (λ (rows : List (List ℕ)). length (flatten rows) ≤ 16384) (eqb t.words.phase phase_marking) (λ e. omega arith)
    (λ e. omega (arith, free_few t h (occupied t) (λ b i. rows_few t h b (occupied_low t b i) (occupied_size t b K i)), occupied_few t))

-- ---- a listing

-- with as many bytes of refused rows as 256 lines can have, and sound tables
listing_few : (r : Ran) → length (flatten (map refused_row r.refusals)) ≤ 1792 → Sound r.lent → length (listing r) ≤ listing_bytes
unfolding listing
listing_few r f K =
    let t : Tables = tables_in r.lent in
    let h : List ℕ = r.lent.heap in
    let refused : List ℕ = section (114 ∷ 101 ∷ 102 ∷ 117 ∷ 115 ∷ 101 ∷ 100 ∷ []) (map refused_row r.refusals) in
    let blocks : List ℕ = section (98 ∷ 108 ∷ 111 ∷ 99 ∷ 107 ∷ 115 ∷ []) (map (block_row t) (occupied t)) in
    let free : List ℕ = section (102 ∷ 114 ∷ 101 ∷ 101 ∷ []) (free_section t h) in
    omega (
      arith,
      length-append refused (blocks ++ free),
      length-append blocks free,
      section_few (114 ∷ 101 ∷ 102 ∷ 117 ∷ 115 ∷ 101 ∷ 100 ∷ []) (map refused_row r.refusals),
      section_few (98 ∷ 108 ∷ 111 ∷ 99 ∷ 107 ∷ 115 ∷ []) (map (block_row t) (occupied t)),
      section_few (102 ∷ 114 ∷ 101 ∷ 101 ∷ []) (free_section t h),
      f,
      flatten_few 86 (block_row t) (block_few t) (occupied t),
      section_rows t h K,
      occupied_few t,
    )

-- "at most [..] 256 lines"
lines_few : (bytes : List ℕ) → length (lines_of bytes) ≤ 256
unfolding lines_of
lines_few bytes = omega (arith, length-take 256 (drop_blank_end (pieces newline (take 16384 bytes))))

-- Whatever the trace, its listing has at most 20,000 bytes
pub census_short : (bytes : List ℕ) → length (census bytes) ≤ listing_bytes
unfolding census
census_short bytes =
    let l : Lent = (set_up census_params census_lent).lent in
    let few : length (lines_of bytes) ≤ 256 = lines_few bytes in
    listing_few (run_lines 1 (lines_of bytes) l) (omega (arith, refused_few 1 (lines_of bytes) l (omega arith)))
    (lines_sound 1 (lines_of bytes) l set_up_sound)
