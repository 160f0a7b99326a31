-- Good tables of the right lengths, and what keeps a block fit for its list or clear. Assumes nothing.
use mathlib.Core.Path.{◌≡◌, refl, sym, ap, ◌∙◌}
use mathlib.Core.Bool.{true, ◌&&◌}
use mathlib.Core.List.{List}
use Prim.Native.Nat.{ℕ, ◌+◌, ◌/◌, ◌%◌, ◌<◌}
use native.Mathlib.Omega.{arith}
use lib.Dec.{eqb}
use lib.ListN.{length, get_or}
use borrow.Author.Tests.{eqb-true}
use Rattle.model.specs.declared.Params.{Params}
use Rattle.model.specs.Tables.{Words, Tables, tables_of}
use Rattle.model.specs.SizeClasses.{cell_bytes}
use Rattle.model.specs.Global.{is_holder}
use Rattle.model.specs.Sound.{state_of, state_known, link_ok, block_clear}
use Rattle.laws.proofs.Below.{and_left, and_right, and_five}
use Rattle.laws.proofs.Tables.{Sized}
use Rattle.laws.proofs.Frame.{LinksOnly}
use Rattle.soundness.proofs.Lists.{Same}
use Rattle.soundness.proofs.SoundLists.{Fit, Good}

-- tables of the right lengths that are good, with the lists that they hold
pub record GoodTables (p : Params) (ms : List ℕ) (w : Words) (st : List ℕ) : Type 0 where
  pub lists : ℕ → List ℕ
  pub good : Good p (tables_of w st ms) lists
  pub sized : Sized p.blocks w
  pub states : length st ≡ p.blocks

-- the words of the block b that are no links are the same
pub record SameWords (w w' : Words) (b : ℕ) : Type 0 where
  pub free : get_or w'.free b 0 ≡ get_or w.free b 0
  pub size : get_or w'.size b 0 ≡ get_or w.size b 0
  pub tls : get_or w'.tls b 0 ≡ get_or w.tls b 0
  pub cells : get_or w'.cells b 0 ≡ get_or w.cells b 0

-- list operations leave them
pub links_words : {w w' : Words} → LinksOnly w w' → (b : ℕ) → SameWords w w' b
links_words K b =
    record {
      free = ap (λ (x : List ℕ). get_or x b 0) K.free;
      size = ap (λ (x : List ℕ). get_or x b 0) K.size;
      tls = ap (λ (x : List ℕ). get_or x b 0) K.tls;
      cells = ap (λ (x : List ℕ). get_or x b 0) K.cells;
    }

-- b, which fits the list l in t, fits the list m of the same bin in u
pub fit_as : (p : Params) (t u : Tables) (l m b : ℕ) → Fit p t l b → get_or u.states b 0 ≡ get_or t.states b 0
    → get_or u.words.size b 0 ≡ get_or t.words.size b 0 → m % 49 ≡ l % 49
    → link_ok p u.words b (get_or u.words.free b 0) ≡ true → is_holder (get_or u.words.tls b 0) ≡ true
    → (m < 1176 → get_or u.words.tls b 0 ≡ m / 49 / 3 + 1) → Fit p u m b
unfolding state_known state_of
fit_as p t u l m b F es ez bin f h o =
    record {
      known = rw es F.known;
      bin = rw bin F.bin;
      size = ez ∙ F.size ∙ ap (cell_bytes p) (sym bin);
      word = rw ez F.word;
      free = f;
      holder = h;
      local = o;
    }

-- its words stay, and m is of the same owner if that is a holder
pub fit_moves : (p : Params) (ms : List ℕ) {w w' : Words} {st st' : List ℕ} (l m b : ℕ) → get_or st' b 0 ≡ get_or st b 0
    → SameWords w w' b → m % 49 ≡ l % 49 → (m < 1176 → l / 147 ≡ m / 147)
    → Fit p (tables_of w st ms) l b → Fit p (tables_of w' st' ms) m b
unfolding link_ok
fit_moves p ms {w} {w'} {st} {st'} l m b es S bin owner F =
    fit_as p (tables_of w st ms) (tables_of w' st' ms) l m b F es S.size bin (rw (S.free, S.size) F.free) (rw S.tls F.holder)
    (λ low. S.tls ∙ local low (owner low))
  where
    local : m < 1176 → l / 147 ≡ m / 147 → get_or w.tls b 0 ≡ m / 49 / 3 + 1
    local low e = F.local (omega arith) ∙ same e
      where
        same : l / 147 ≡ m / 147 → l / 49 / 3 + 1 ≡ m / 49 / 3 + 1
        same e = omega arith

-- and the list is the same
pub fit_same : (p : Params) (ms : List ℕ) {w w' : Words} {st st' : List ℕ} (l b : ℕ) → get_or st' b 0 ≡ get_or st b 0
    → SameWords w w' b → Fit p (tables_of w st ms) l b → Fit p (tables_of w' st' ms) l b
fit_same p ms l b es S F = fit_moves p ms l l b es S refl (λ z. refl) F

-- a block stays clear where its words stay
pub clear_same : {st : List ℕ} {w w' : Words} (b : ℕ) → Same st st w w' b → SameWords w w' b → block_clear w b ≡ true → block_clear w' b ≡ true
unfolding block_clear
clear_same b S T c = rw (S.next, S.prev, S.list, T.free, T.size, T.tls, T.cells) c

-- the free head, the cell size and the free count of a clear block are 0
pub clear_words : (w : Words) (b : ℕ) → block_clear w b ≡ true
    → (get_or w.free b 0 ≡ 0) × (get_or w.size b 0 ≡ 0) × (get_or w.cells b 0 ≡ 0)
unfolding block_clear
clear_words w b e =
    let n = eqb (get_or w.next b 0) 0 in
    let r = eqb (get_or w.prev b 0) 0 in
    let f = eqb (get_or w.free b 0) 0 in
    let s = eqb (get_or w.size b 0) 0 in
    let l = eqb (get_or w.list b 0) 0 in
    let t = eqb (get_or w.tls b 0) 0 in
    let h = and_five n r f s l (and_left (n && r && f && s && l) t (and_left (n && r && f && s && l && t) _ e)) in
    (eqb-true _ _ h.2, eqb-true _ _ h.3, eqb-true _ _ (and_right (n && r && f && s && l && t) _ e))
