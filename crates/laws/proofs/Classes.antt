-- Laws of the size classes, of 01's from the model's computed table `classes_hold`, of rows from Rows.antt; of raised sizes; and of the least shift: an object
-- lies in its cell. Assumes nothing.
use Rattle.std.specs.Prelude.{if◌then◌else◌}
use Prim.Native.Nat.{ℕ, suc, ◌+◌, ◌-◌, ◌*◌, ◌/◌, ◌%◌, ◌^◌, ◌<◌, ◌≤◌}
use mathlib.Core.Path.{◌≡◌, refl, sym, ap, ◌∙◌, subst}
use mathlib.Core.Bool.{Bool, true, false, ◌&&◌, ◌||◌}
use mathlib.Core.Logic.{◌⊎◌, inl, inr, ⊎_elim, ◌≢◌}
use native.Mathlib.Nat.{sub-zero, zero-mod, add-mod_right, add-mul-mod_self_left, mod-mod_of_dvd, dvd_of_mod-eq-zero, le_of_dvd, mod-lt, mod-add-div, mul-mod_right, add-mod, mod_self, mod-eq_of_lt, eq-zero-or-pos}
use native.Mathlib.Omega.{arith}
use lib.Dec.{eqb, ltb, leb}
use lib.ListN.{length, get_or, get_or-eq_default}
use borrow.Author.Tests.{eqb-true, ltb-true, ltb-false, leb-true, leb-false, le-ltb, eq-eqb, ne_eqb, le-leb, lt-leb}
use Rattle.model.specs.declared.Params.{Params}
use Rattle.model.specs.Base.{all_below, any_below, least_from}
use Rattle.model.specs.Params.{power_of_two}
use Rattle.model.specs.SizeClasses.{fours, class_words, class_bytes, words_in, mi_bin, row_at, covers, words_asked, bin_of, cell_bytes, raised, shift, align_allocation}
use Rattle.model.specs.Classes.{block_words, classes_fit, OnlyRow, AcceptedCovers}
use Rattle.model.specs.Calls.{good_request, too_big}
use Rattle.model.specs.Cases.{least_class, classes_right}
use Rattle.model.proofs.Computed.{classes_hold}
use Rattle.laws.proofs.Below.{and_left, and_right, and_three, and_four, or_cases, all_below_at, any_below_at, test}
use Rattle.laws.proofs.Good.{Good, each_power}
use Rattle.laws.proofs.Params.{Bounds, bounds}
use Rattle.laws.proofs.Rows.{accepted_covers, accepted_row, only_least}

-- ---- 01's classes: cells of a bin

-- the classes are 49
pub class_count : length class_words ≡ 49
unfolding class_words fours
class_count = refl

pub class_bytes_past : (bin : ℕ) → 49 ≤ bin → class_bytes bin ≡ 0
unfolding class_bytes
class_bytes_past bin h = ap (λ (n : ℕ). 8 * n) (get_or-eq_default class_words 0 (rw class_count h))

-- a test of each bin
abbrev bin_test : ℕ → Bool
bin_test bin = leb 8 (8 * get_or class_words bin 0) && leb (8 * get_or class_words bin 0) 65536

bins_right : all_below 49 bin_test ≡ true
unfolding all_below class_words fours
bins_right = refl

module _ {bin : ℕ} (h : bin < 49) where
  bin_right : (8 ≤ class_bytes bin) × (class_bytes bin ≤ 65536)
  unfolding class_bytes
  bin_right =
      let w : ℕ = get_or class_words bin 0 in
      let t : bin_test bin ≡ true = all_below_at 49 bin_test bins_right bin h in
      (leb-true _ _ (and_left (leb 8 (8 * w)) (leb (8 * w) 65536) t), leb-true _ _ (and_right (leb 8 (8 * w)) (leb (8 * w) 65536) t))

  pub class_bytes_least : 8 ≤ class_bytes bin
  class_bytes_least = bin_right.0

  pub class_bytes_most : class_bytes bin ≤ 65536
  class_bytes_most = bin_right.1

pub class_bytes_words : (bin : ℕ) → class_bytes bin % 8 ≡ 0
unfolding class_bytes
class_bytes_words bin = omega arith

-- classes grow with the bin
abbrev ordered : ℕ → Bool
ordered j = all_below (suc j) (λ i. leb (8 * get_or class_words i 0) (8 * get_or class_words j 0))

bins_ordered : all_below 49 ordered ≡ true
unfolding all_below class_words fours
bins_ordered = refl

pub class_bytes_mono : {i j : ℕ} → i ≤ j → j < 49 → class_bytes i ≤ class_bytes j
unfolding class_bytes
class_bytes_mono {i} {j} h l =
    leb-true _ _
    (all_below_at (suc j) (λ i. leb (8 * get_or class_words i 0) (8 * get_or class_words j 0)) (all_below_at 49 ordered bins_ordered j l) i
    (omega arith))

-- ---- the bin of a size, in 01's classes

pub words_of : (w : ℕ) → words_in (8 * w) ≡ w
unfolding words_in
words_of w = omega arith

pub words_least : (size : ℕ) → size ≤ 8 * words_in size
unfolding words_in
words_least size = omega arith

pub words_most : (size : ℕ) → 8 * words_in size ≤ size + 7
unfolding words_in
words_most size = omega arith

words_to : (size : ℕ) → size ≤ 65536 → words_in size ≤ 8192
unfolding words_in
words_to size h = omega arith

-- a size's bin is that of its words
pub mi_bin_words : (size : ℕ) → size ≤ 65536 → mi_bin size ≡ mi_bin (8 * words_in size)
unfolding mi_bin
mi_bin_words size h =
    let k : words_in size ≤ 8192 = words_to size h in
    let m : 8 * words_in size ≤ 65536 = omega arith in
    rw (le-ltb 65536 size h, le-ltb 65536 (8 * words_in size) m, words_of (words_in size))

pub mi_bin_zero : mi_bin 0 ≡ 1
unfolding mi_bin words_in
mi_bin_zero = refl

-- what the table says of one count of words
abbrev pub Least : ℕ → ℕ → Type 0
Least w n = (8 * w ≤ class_bytes n) × ((n ≡ 1) ⊎ (class_bytes (n - 1) < 8 * w))

pub least_at : (w : ℕ) → 1 ≤ w → w ≤ 8192 → Least w (mi_bin (8 * w))
unfolding least_class classes_right
least_at w h l =
    let i : ℕ = w - 1 in
    let e : suc i ≡ w = omega arith in
    let t : least_class w ≡ true = subst (λ (x : ℕ). least_class x ≡ true) e (all_below_at 8192 (λ i. least_class (suc i)) classes_hold i (omega arith)) in
    let n : ℕ = mi_bin (8 * w) in
    let a : Bool = leb (8 * w) (class_bytes n) in
    let b : Bool = eqb n 1 || ltb (class_bytes (n - 1)) (8 * w) in (
      leb-true _ _ (and_left a b t),
      ⊎_elim (λ q. inl (eqb-true _ _ q)) (λ q. inr (ltb-true _ _ q))
          (or_cases (eqb n 1) (ltb (class_bytes (n - 1)) (8 * w)) (and_right a b t)),
    )

-- the bin of a size up to 65,536: one of 1 to 48, whose cell holds the size, and the least such
pub record MiChosen (size : ℕ) : Type 0 where
  pub from : 1 ≤ mi_bin size
  pub to : mi_bin size ≤ 48
  pub holds : size ≤ class_bytes (mi_bin size)
  pub least : (mi_bin size ≡ 1) ⊎ (class_bytes (mi_bin size - 1) < size)

mi_chosen_zero : MiChosen 0
unfolding class_bytes class_words fours
mi_chosen_zero =
    let e : mi_bin 0 ≡ 1 = mi_bin_zero in
    record { from = omega arith; to = omega arith; holds = rw e (omega arith); least = inl e }

pub zero_class : class_bytes 0 ≡ 8
unfolding class_bytes class_words fours
zero_class = refl

-- a bin that holds some words, with its cell
module _ (w n : ℕ) (h : 1 ≤ w) (l : Least w n) where
  least_to : n ≤ 48
  least_to =
      ⊎_elim (λ q. omega arith)
      (λ q. ⊎_elim (λ t. leb-true n 48 t)
      (λ t. let z : class_bytes n ≡ 0 = class_bytes_past n (leb-false n 48 t) in absurd (omega arith))
      (test (leb n 48)))
      l.1

  least_from_lem : 1 ≤ n
  least_from_lem =
      ⊎_elim (λ q. omega arith) (λ q. go (eq-zero-or-pos n) q) l.1
    where
      go : (n ≡ 0) ⊎ (0 < n) → class_bytes (n - 1) < 8 * w → 1 ≤ n
      go (inl e) q =
          let a : n - 1 ≡ 0 = omega arith in
          let b : class_bytes (n - 1) ≡ 8 = ap class_bytes a ∙ zero_class in
          let c : class_bytes n ≡ 8 = ap class_bytes e ∙ zero_class in
          absurd (omega (arith, l.0))
      go (inr k) q = k

mi_chosen_some : (size : ℕ) → 0 < size → size ≤ 65536 → MiChosen size
mi_chosen_some size h k = rw_chosen (mi_bin_words size k)
  where
    w : ℕ
    w = words_in size

    n : ℕ
    n = mi_bin (8 * w)

    w_from : 1 ≤ w
    w_from = omega (arith, words_least size)

    at : Least w n
    at = least_at w w_from (words_to size k)

    below : (i : ℕ) → class_bytes i < 8 * w → class_bytes i < size
    below i q = omega (arith, class_bytes_words i, words_most size)

    rw_chosen : mi_bin size ≡ n → MiChosen size
    rw_chosen e =
        let a : n ≤ 48 = least_to w n w_from at in
        let b : 1 ≤ n = least_from_lem w n w_from at in
        record {
          from = rw e b;
          to = rw e a;
          holds = rw e (omega (arith, words_least size, at.0));
          least = rw e (⊎_elim (λ q. inl q) (λ q. inr (below (n - 1) q)) at.1);
        }

pub mi_chosen : (size : ℕ) → size ≤ 65536 → MiChosen size
mi_chosen size h =
    ⊎_elim (λ e. subst (λ (x : ℕ). MiChosen x) (sym e) mi_chosen_zero) (λ k. mi_chosen_some size k h) (eq-zero-or-pos size)

-- ---- a block has room for the cells of each size it can serve: block sizes are class sizes

abbrev is_class : ℕ → Bool
is_class x = ltb x 4096 || any_below 49 (λ m. eqb (8 * get_or class_words m 0) x)

powers_are_classes : all_below 17 (λ k. is_class (2 ^ k)) ≡ true
unfolding all_below any_below class_words fours
powers_are_classes = refl

block_class : (p : Params) → Bounds p → (m : ℕ) × (m < 49) × (class_bytes m ≡ p.bytes)
unfolding class_bytes
block_class p g =
    ⊎_elim (λ q. absurd (omega (arith, ltb-true p.bytes 4096 q)))
    (λ q. let r = any_below_at 49 (λ m. eqb (8 * get_or class_words m 0) p.bytes) q in (r.0, r.1, eqb-true _ _ r.2))
    (or_cases (ltb p.bytes 4096) (any_below 49 (λ m. eqb (8 * get_or class_words m 0) p.bytes))
    (each_power is_class powers_are_classes g.bytes_power))

pub class_in_block : (p : Params) → Bounds p → (size : ℕ) → size ≤ p.bytes → class_bytes (mi_bin size) ≤ p.bytes
class_in_block p g size h = go (test (leb n m))
  where
    n : ℕ
    n = mi_bin size

    c : MiChosen size
    c = mi_chosen size (omega (arith, g.bytes_high))

    m : ℕ
    m = (block_class p g).0

    m_low : m < 49
    m_low = (block_class p g).1

    m_is : class_bytes m ≡ p.bytes
    m_is = (block_class p g).2

    m_pos : m ≡ 0 → ⊥
    m_pos e =
        let z : class_bytes m ≡ 8 = ap class_bytes e ∙ zero_class in
        omega (arith, m_is, g.bytes_low)

    go : (leb n m ≡ true) ⊎ (leb n m ≡ false) → class_bytes n ≤ p.bytes
    go (inl t) = rw m_is at (class_bytes_mono (leb-true n m t) m_low)
    go (inr t) =
        let past : m < n = leb-false n m t in
        let a : m ≤ n - 1 = omega arith in
        let b : n - 1 < 49 = omega (arith, c.to) in
        ⊎_elim (λ q. absurd (m_pos (omega arith)))
        (λ q. absurd (omega (arith, m_is, class_bytes_mono a b)))
        c.least

-- ---- the class of a size, by rows or without

pub plain_bin : (p : Params) → p.count ≡ 0 → (size : ℕ) → bin_of p size ≡ mi_bin size
unfolding bin_of
plain_bin p e size = rw (eq-eqb p.count 0 e)

pub plain_cell : (p : Params) → p.count ≡ 0 → (bin : ℕ) → cell_bytes p bin ≡ class_bytes bin
unfolding cell_bytes
plain_cell p e bin = rw (eq-eqb p.count 0 e)

module _ (p : Params) (some : p.count ≢ 0) where
  pub row_bin : (size : ℕ) → bin_of p size ≡ least_from p.count 1 (λ n. covers (row_at p n) (words_asked size))
  unfolding bin_of
  row_bin size = rw (ne_eqb p.count 0 some)

  pub row_cell : (bin : ℕ) → 1 ≤ bin → bin ≤ p.count → cell_bytes p bin ≡ 8 * (row_at p bin).cell
  unfolding cell_bytes
  row_cell bin h k = rw (ne_eqb p.count 0 some, le-leb 1 bin h, le-leb bin p.count k)

  pub rowless_cell : (bin : ℕ) → p.count < bin → cell_bytes p bin ≡ 0
  unfolding cell_bytes
  rowless_cell bin h = rw (ne_eqb p.count 0 some, le-leb 1 bin (omega arith), lt-leb bin p.count h)

  pub zero_cell : cell_bytes p 0 ≡ 0
  unfolding cell_bytes
  zero_cell = rw (ne_eqb p.count 0 some)

-- a table of rows is given, or none is
pub given_rows : (p : Params) → (p.count ≡ 0) ⊎ (p.count ≢ 0)
given_rows p = ⊎_elim (λ e. inl e) (λ h. inr (λ e. omega arith)) (eq-zero-or-pos p.count)

-- cells are of whole words
pub cell_bytes_words : (p : Params) (bin : ℕ) → cell_bytes p bin % 8 ≡ 0
cell_bytes_words p bin =
    ⊎_elim (λ e. rw (plain_cell p e bin) (class_bytes_words bin)) (λ n. by_row n (eq-zero-or-pos bin) (test (leb bin p.count))) (given_rows p)
  where
    by_row : p.count ≢ 0 → (bin ≡ 0) ⊎ (0 < bin) → (leb bin p.count ≡ true) ⊎ (leb bin p.count ≡ false) → cell_bytes p bin % 8 ≡ 0
    by_row n (inl e) t = rw (ap (cell_bytes p) e ∙ zero_cell p n) refl
    by_row n (inr h) (inl t) = rw (row_cell p n bin h (leb-true bin p.count t)) (omega arith)
    by_row n (inr h) (inr t) = rw (rowless_cell p n bin (leb-false bin p.count t)) refl

-- the size of a block in sound tables is a word at least
pub cell_bytes_some : (p : Params) (bin : ℕ) → 0 < cell_bytes p bin → 8 ≤ cell_bytes p bin
cell_bytes_some p bin h = omega (arith, cell_bytes_words p bin)

-- ---- accepted tables: the class that a size is served from

pub record Chosen (p : Params) (size : ℕ) : Type 0 where
  pub from : 1 ≤ bin_of p size
  pub to : bin_of p size ≤ 48
  pub holds : size ≤ cell_bytes p (bin_of p size)
  pub word : 8 ≤ cell_bytes p (bin_of p size)
  pub room : cell_bytes p (bin_of p size) ≤ p.bytes

module _ (p : Params) (g : Bounds p) (fit : classes_fit p ≡ true) where
  chosen_plain : p.count ≡ 0 → (size : ℕ) → size ≤ p.bytes → Chosen p size
  chosen_plain e size h =
      let c : MiChosen size = mi_chosen size (omega (arith, g.bytes_high)) in
      let b : bin_of p size ≡ mi_bin size = plain_bin p e size in
      let z : cell_bytes p (bin_of p size) ≡ class_bytes (mi_bin size) = plain_cell p e (bin_of p size) ∙ ap class_bytes b in
      record {
        from = rw b c.from;
        to = rw b c.to;
        holds = rw z c.holds;
        word = rw z (class_bytes_least (omega (arith, c.to)));
        room = rw z (class_in_block p g size h);
      }

  -- the words asked for are of the block
  asked_from : (size : ℕ) → 1 ≤ words_asked size
  unfolding words_asked words_in
  asked_from size = ⊎_elim (λ e. rw (eq-eqb size 0 e) (omega arith)) (λ h. rw (ne_eqb size 0 (λ e. omega arith)) (omega arith)) (eq-zero-or-pos size)

  asked_to : (size : ℕ) → size ≤ p.bytes → words_asked size ≤ block_words p
  unfolding words_asked words_in block_words
  asked_to size h =
      ⊎_elim (λ e. rw (eq-eqb size 0 e) (omega (arith, g.bytes_low))) (λ k. rw (ne_eqb size 0 (λ e. omega arith)) (omega (arith, g.bytes_words)))
      (eq-zero-or-pos size)

  asked_holds : (size : ℕ) → size ≤ 8 * words_asked size
  unfolding words_asked
  asked_holds size = ⊎_elim (λ e. omega arith) (λ k. rw (ne_eqb size 0 (λ e. omega arith)) (words_least size)) (eq-zero-or-pos size)

  chosen_row : p.count ≢ 0 → (size : ℕ) → size ≤ p.bytes → Chosen p size
  unfolding AcceptedCovers
  chosen_row n size h =
      let w : ℕ = words_asked size in
      let r = accepted_covers p fit n w (asked_from size) (asked_to size h) in
      let o : OnlyRow p w r.0 = r.1 in
      let b : bin_of p size ≡ r.0 = row_bin p n size ∙ only_least p w o in
      let z : cell_bytes p (bin_of p size) ≡ 8 * (row_at p r.0).cell = ap (cell_bytes p) b ∙ row_cell p n r.0 o.from o.to in
      record {
        from = rw b o.from;
        to = rw b (omega (arith, o.to, g.rows_high));
        holds = rw z (omega (arith, asked_holds size, o.holds));
        word = rw z (omega (arith, asked_from size, o.holds));
        room = rw z o.room;
      }

  pub chosen : (size : ℕ) → size ≤ p.bytes → Chosen p size
  chosen size h = ⊎_elim (λ e. chosen_plain e size h) (λ n. chosen_row n size h) (given_rows p)

  -- no cell is larger than the largest block
  pub cell_bytes_most : (bin : ℕ) → bin < 49 → cell_bytes p bin ≤ 65536
  cell_bytes_most bin l =
      ⊎_elim (λ e. rw (plain_cell p e bin) (class_bytes_most l)) (λ n. by_row n (eq-zero-or-pos bin) (test (leb bin p.count))) (given_rows p)
    where
      by_row : p.count ≢ 0 → (bin ≡ 0) ⊎ (0 < bin) → (leb bin p.count ≡ true) ⊎ (leb bin p.count ≡ false) → cell_bytes p bin ≤ 65536
      by_row n (inl e) t = rw (ap (cell_bytes p) e ∙ zero_cell p n) (omega arith)
      by_row n (inr h) (inl t) =
          let k : bin ≤ p.count = leb-true bin p.count t in
          rw (row_cell p n bin h k) (omega (arith, (accepted_row p fit n bin h k).room, g.bytes_high))
      by_row n (inr h) (inr t) = rw (rowless_cell p n bin (leb-false bin p.count t)) (omega arith)

-- ---- the least shift

module _ (region align offset : ℕ) (pos : 0 < align) where
  rest : ℕ
  rest = (region + offset) % align

  rest_low : rest < align
  unfolding rest
  rest_low = mod-lt (region + offset) pos

  -- by what is left of the region and the offset: nothing, or something
  shift_none : rest ≡ 0 → shift region align offset ≡ 0
  unfolding shift rest
  shift_none e = rw (e, sub-zero) (mod_self align)

  shift_some : 0 < rest → shift region align offset ≡ align - rest
  unfolding shift rest
  shift_some h =
      let l : align - (region + offset) % align < align = omega arith in
      mod-eq_of_lt l

  -- "the least d with region + d + offset a multiple of align"
  pub shift_aligned : (region + shift region align offset + offset) % align ≡ 0
  unfolding rest
  shift_aligned = go (eq-zero-or-pos rest)
    where
      x : ℕ
      x = region + offset

      q : ℕ
      q = x / align

      go : (rest ≡ 0) ⊎ (0 < rest) → (region + shift region align offset + offset) % align ≡ 0
      go (inl e) =
          let z : region + shift region align offset + offset ≡ x = omega (arith, shift_none e) in
          ap (λ (n : ℕ). n % align) z ∙ e
      go (inr h) =
          let s : shift region align offset ≡ align - rest = shift_some h in
          let d : rest + align * q ≡ x = mod-add-div x align in
          let z : region + shift region align offset + offset ≡ align * q + align = omega (arith, rest_low) in
          ap (λ (n : ℕ). n % align) z ∙ add-mod_right (align * q) align ∙ mul-mod_right align q

  pub shift_least : (d : ℕ) → (region + d + offset) % align ≡ 0 → shift region align offset ≤ d
  unfolding rest
  shift_least d e = go (eq-zero-or-pos rest) (test (leb (align - rest) d))
    where
      x : ℕ
      x = region + offset

      q : ℕ
      q = x / align

      go : (rest ≡ 0) ⊎ (0 < rest) → (leb (align - rest) d ≡ true) ⊎ (leb (align - rest) d ≡ false) → shift region align offset ≤ d
      go (inl z) t = omega (arith, shift_none z)
      go (inr h) (inl t) = omega (arith, shift_some h, leb-true (align - rest) d t)
      go (inr h) (inr t) =
          let short : d < align - rest = leb-false (align - rest) d t in
          let o : rest + align * q ≡ x = mod-add-div x align in
          let y : region + d + offset ≡ (rest + d) + align * q = omega arith in
          let m : (region + d + offset) % align ≡ rest + d =
          ap (λ (n : ℕ). n % align) y ∙ add-mul-mod_self_left (rest + d) align q ∙ mod-eq_of_lt (omega arith) in
          absurd (omega arith)

  -- where another number divides align, region and offset, what the shift leaves of align is at least that number
  module _ (min : ℕ) (divides : align % min ≡ 0) (whole : (region + offset) % min ≡ 0) (mpos : 0 < min) where
    rest_whole : rest % min ≡ 0
    unfolding rest
    rest_whole = mod-mod_of_dvd min (region + offset) (dvd_of_mod-eq-zero min divides) ∙ whole

    rest_least : 0 < rest → min ≤ rest
    rest_least h = go (test (leb min rest))
      where
        go : (leb min rest ≡ true) ⊎ (leb min rest ≡ false) → min ≤ rest
        go (inl t) = leb-true min rest t
        go (inr t) = absurd (omega (arith, rest_whole, mod-eq_of_lt (leb-false min rest t)))

    pub shift_room : shift region align offset + min ≤ align
    shift_room = go (eq-zero-or-pos rest)
      where
        go : (rest ≡ 0) ⊎ (0 < rest) → shift region align offset + min ≤ align
        go (inl e) = omega (arith, shift_none e, le_of_dvd pos (dvd_of_mod-eq-zero min divides))
        go (inr h) = omega (arith, shift_some h, rest_least h, rest_low)

-- ---- an object lies in its cell

-- a power of two from 4 on is a multiple of 4, one from 8 on of 8
abbrev whole_from : ℕ → ℕ → Bool
whole_from m x = ltb x m || eqb (x % m) 0

whole_fours : all_below 17 (λ k. whole_from 4 (2 ^ k)) ≡ true
unfolding all_below
whole_fours = refl

whole_eights : all_below 17 (λ k. whole_from 8 (2 ^ k)) ≡ true
unfolding all_below
whole_eights = refl

power_whole : (m x : ℕ) → all_below 17 (λ k. whole_from m (2 ^ k)) ≡ true → power_of_two x ≡ true → m ≤ x → x % m ≡ 0
power_whole m x all e h =
    ⊎_elim (λ q. absurd (omega (arith, ltb-true x m q))) (λ q. eqb-true _ _ q)
    (or_cases (ltb x m) (eqb (x % m) 0) (each_power (whole_from m) all e))

-- MIN divides each power of two from MIN on
pub min_divides : (p : Params) → Good p → (x : ℕ) → power_of_two x ≡ true → p.min ≤ x → x % p.min ≡ 0
min_divides p g x e h =
    ⊎_elim (λ q. rw q (power_whole 4 x whole_fours e (rw q at h))) (λ q. rw q (power_whole 8 x whole_eights e (rw q at h)))
    g.min_is

pub min_pos : (p : Params) → Good p → 0 < p.min
min_pos p g = ⊎_elim (λ q. omega arith) (λ q. omega arith) g.min_is

-- and each multiple of 8
pub min_divides_eight : (p : Params) → Good p → (x : ℕ) → x % 8 ≡ 0 → x % p.min ≡ 0
min_divides_eight p g x e = ⊎_elim (λ q. rw q (omega arith)) (λ q. rw q e) g.min_is

-- what a good request says
pub record Request (p : Params) (size align offset : ℕ) : Type 0 where
  pub size_whole : size % p.min ≡ 0
  pub offset_whole : offset % p.min ≡ 0
  pub offset_low : offset ≤ 65536
  pub align_power : power_of_two align ≡ true
  pub align_from : p.min ≤ align
  pub align_to : align ≤ p.max

pub request : (p : Params) (size align offset : ℕ) → good_request p size align offset ≡ true → Request p size align offset
unfolding good_request
request p size align offset e =
    let r =
    and_four (eqb (size % p.min) 0) (eqb (offset % p.min) 0) (leb offset 65536)
    (power_of_two align && leb p.min align && leb align p.max) e in
    let s = and_three (power_of_two align) (leb p.min align) (leb align p.max) r.3 in
    record {
      size_whole = eqb-true _ _ r.0;
      offset_whole = eqb-true _ _ r.1;
      offset_low = leb-true _ _ r.2;
      align_power = s.0;
      align_from = leb-true _ _ s.1;
      align_to = leb-true _ _ s.2;
    }

pub fits_raised : (p : Params) (size align : ℕ) → too_big p size align ≡ false → raised p size align ≤ p.bytes
unfolding too_big
fits_raised p size align e = ltb-false p.bytes (raised p size align) e

pub raised_least : (p : Params) (size align : ℕ) → size + align ≤ raised p size align + p.min
unfolding raised
raised_least p size align = go (test (ltb p.min align))
  where
    go : (ltb p.min align ≡ true) ⊎ (ltb p.min align ≡ false)
        → size + align ≤ (if ltb p.min align then size + (align - p.min) else size) + p.min
    go (inl t) = rw t (omega (arith, ltb-true p.min align t))
    go (inr t) = rw t (omega (arith, ltb-false p.min align t))

module _ (p : Params) (g : Good p) {size align offset : ℕ} (q : Request p size align offset) where
  -- the shift and the size take no more than the raised size, from any multiple of 8
  pub shifted_in_raised : (cell : ℕ) → cell % 8 ≡ 0 → shift cell align offset + size ≤ raised p size align
  shifted_in_raised cell e =
      let whole : (cell + offset) % p.min ≡ 0 = sum_whole in
      let pos : 0 < align = omega (arith, q.align_from, min_pos p g) in
      let room : shift cell align offset + p.min ≤ align =
      shift_room cell align offset pos p.min (min_divides p g align q.align_power q.align_from) whole (min_pos p g) in
      omega (arith, raised_least p size align)
    where
      sum_whole : (cell + offset) % p.min ≡ 0
      sum_whole =
          add-mod cell offset p.min
          ∙ ap (λ (n : ℕ). (n + offset % p.min) % p.min) (min_divides_eight p g cell e)
          ∙ ap (λ (n : ℕ). (0 + n) % p.min) q.offset_whole
          ∙ zero-mod p.min

  -- so the object lies in its cell, and the cell in a block
  pub object_in_cell : classes_fit p ≡ true → too_big p size align ≡ false → (cell : ℕ) → cell % 8 ≡ 0
      → align_allocation cell align offset + size ≤ cell + cell_bytes p (bin_of p (raised p size align))
  unfolding align_allocation
  object_in_cell fit t cell e =
      let h : raised p size align ≤ p.bytes = fits_raised p size align t in
      let c : Chosen p (raised p size align) = chosen p (bounds p g) fit (raised p size align) h in
      omega (arith, c.holds, shifted_in_raised cell e)
