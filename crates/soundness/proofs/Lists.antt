-- The block lists of sound tables as what they are: lists of block numbers. `Lists p st w L` says that on each list l the words
-- link the blocks of L l, in that order, both ways. And what follows from that for each block, and for other words.
-- Assumes nothing.
use Rattle.std.specs.Prelude.{if◌then◌else◌}
use mathlib.Core.Path.{◌≡◌, refl, sym, ap, ◌∙◌, subst}
use mathlib.Core.Logic.{◌≢◌, ◌⊎◌, inl, inr, ⊎_elim}
use mathlib.Core.Bool.{true, false}
use mathlib.Core.List.{List, [], ◌∷◌}
use Prim.Native.Nat.{ℕ, suc, ◌<◌, ◌≤◌}
use native.Mathlib.Omega.{arith}
use lib.Dec.{eqb}
use lib.ListN.{length, get_or}
use borrow.Author.Tests.{eqb-true, eqb-false, eq-eqb, ne_eqb}
use Rattle.model.specs.declared.Params.{Params}
use Rattle.model.specs.Base.{In, member}
use Rattle.model.specs.Params.{start, list_word}
use Rattle.model.specs.Tables.{Words}
use Rattle.laws.proofs.Base.{Bool_cases, if_cases, if_true, if_false, member_in}
use Rattle.laws.proofs.Params.{Bounds, some_start, start_same, word_same}
use Rattle.laws.proofs.Pigeon.{Distinct, Under, distinct_short}

-- the link a leads to the occupied block x, which names the list with this word, and whose prev is `before`
pub record Here (p : Params) (st : List ℕ) (w : Words) (word before a x : ℕ) : Type 0 where
  pub at : a ≡ start p x
  pub low : x < p.blocks
  pub occupied : get_or st x 0 ≢ 0
  pub names : get_or w.list x 0 ≡ word
  pub prev : get_or w.prev x 0 ≡ before

-- from the link a on, behind the block at `before`, stand the blocks xs and no more; `last` is the last of them
unfoldable pub Seg : Params → List ℕ → Words → ℕ → ℕ → ℕ → ℕ → List ℕ → Type 0
Seg p st w word last before a [] = (a ≡ 0) × (last ≡ before)
Seg p st w word last before a (x ∷ xs) =
    Here p st w word before a x × Seg p st w word last (start p x) (get_or w.next x 0) xs

-- the blocks of the list l are xs
abbrev pub Run : Params → List ℕ → Words → ℕ → List ℕ → Type 0
Run p st w l xs = Seg p st w (list_word l) (get_or w.last l 0) 0 (get_or w.first l 0) xs

pub record Lists (p : Params) (st : List ℕ) (w : Words) (L : ℕ → List ℕ) : Type 0 where
  pub seg : (l : ℕ) → l < 1470 → Run p st w l (L l)

-- the block b is on a list
abbrev pub OnSome : (ℕ → List ℕ) → ℕ → Type 0
OnSome L b = (l : ℕ) × (l < 1470) × In b (L l)

-- every occupied block is
unfoldable pub AllOn : Params → List ℕ → (ℕ → List ℕ) → Type 0
AllOn p st L = (b : ℕ) → b < p.blocks → get_or st b 0 ≢ 0 → OnSome L b

-- the block b is on no list
unfoldable pub Off : (ℕ → List ℕ) → ℕ → Type 0
Off L b = (l : ℕ) → l < 1470 → In b (L l) → ⊥

-- L with xs as the list l
unfoldable pub put : ℕ → List ℕ → (ℕ → List ℕ) → ℕ → List ℕ
put l xs L m = if eqb m l then xs else L m

-- ---- one list put in the place of another

module _ (l : ℕ) (xs : List ℕ) (L : ℕ → List ℕ) where
  -- the list put is there
  pub put_same : put l xs L l ≡ xs
  unfolding put
  put_same = if_true (eqb l l) xs (L l) (eq-eqb l l refl)

  -- the others stay
  pub put_other : (m : ℕ) → m ≢ l → put l xs L m ≡ L m
  unfolding put
  put_other m f = if_false (eqb m l) xs (L m) (ne_eqb m l f)

  -- a property of each list
  pub put_all : (P : ℕ → List ℕ → Type 0) → P l xs → ((m : ℕ) → m ≢ l → P m (L m)) → (m : ℕ) → P m (put l xs L m)
  unfolding put
  put_all P h f m =
      if_cases (P m) (eqb m l) (λ t. subst (λ (k : ℕ). P k xs) (sym (eqb-true m l t)) h) (λ t. f m (eqb-false m l t))

  -- a block on the list m then
  pub put_in_lem : (m b : ℕ) → (m ≡ l → In b xs) → (m ≢ l → In b (L m)) → In b (put l xs L m)
  unfolding put
  put_in_lem m b f g = if_cases (In b) (eqb m l) (λ t. f (eqb-true m l t)) (λ t. g (eqb-false m l t))

  -- and where it was
  pub in_put : (m b : ℕ) → In b (put l xs L m) → ((m ≡ l) × In b xs) ⊎ ((m ≢ l) × In b (L m))
  in_put m b =
      put_all (λ k ys. In b ys → ((k ≡ l) × In b xs) ⊎ ((k ≢ l) × In b (L k))) (λ i. inl (refl, i)) (λ k f i. inr (f, i)) m

-- ---- runs of blocks

-- what is said of a block on the list with this word
pub record On (p : Params) (st : List ℕ) (w : Words) (word b : ℕ) : Type 0 where
  pub low : b < p.blocks
  pub occupied : get_or st b 0 ≢ 0
  pub names : get_or w.list b 0 ≡ word

-- how the words w' and states st' have the block x of a run: on the list with this word, its prev is f of the old one
pub record Moved (f : ℕ → ℕ) (st st' : List ℕ) (w w' : Words) (word x : ℕ) : Type 0 where
  pub occupied : get_or st x 0 ≢ 0 → get_or st' x 0 ≢ 0
  pub names : get_or w'.list x 0 ≡ word
  pub prev : get_or w'.prev x 0 ≡ f (get_or w.prev x 0)
  pub next : get_or w'.next x 0 ≡ get_or w.next x 0

-- of the block b the two tables say the same, and it stays occupied
pub record Same (st st' : List ℕ) (w w' : Words) (b : ℕ) : Type 0 where
  pub occupied : get_or st b 0 ≢ 0 → get_or st' b 0 ≢ 0
  pub next : get_or w'.next b 0 ≡ get_or w.next b 0
  pub prev : get_or w'.prev b 0 ≡ get_or w.prev b 0
  pub list : get_or w'.list b 0 ≡ get_or w.list b 0

module _ (p : Params) where
  -- what is said of each block of a run
  pub seg_on : (st : List ℕ) (w : Words) (word last before a : ℕ) (xs : List ℕ) → Seg p st w word last before a xs
      → (b : ℕ) → In b xs → On p st w word b
  unfolding Seg In
  seg_on st w word last before a [] s b i = absurd i
  seg_on st w word last before a (x ∷ xs) s b (inl e) =
      rw e (record { low = s.0.low; occupied = s.0.occupied; names = s.0.names })
  seg_on st w word last before a (x ∷ xs) s b (inr i) = seg_on st w word last (start p x) (get_or w.next x 0) xs s.1 b i

  -- all are numbers of blocks
  pub seg_under : (st : List ℕ) (w : Words) (word last before a : ℕ) (xs : List ℕ) → Seg p st w word last before a xs
      → Under p.blocks xs
  unfolding Seg Under
  seg_under st w word last before a [] s = tt
  seg_under st w word last before a (x ∷ xs) s =
      (s.0.low, seg_under st w word last (start p x) (get_or w.next x 0) xs s.1)

  -- a run under other words
  pub seg_map : (f : ℕ → ℕ) (st st' : List ℕ) (w w' : Words) (word word' last before a : ℕ) (xs : List ℕ)
      → ((b : ℕ) → b < p.blocks → f (start p b) ≡ start p b) → ((x : ℕ) → In x xs → Moved f st st' w w' word' x)
      → Seg p st w word last before a xs → Seg p st' w' word' (f last) (f before) a xs
  unfolding Seg In
  seg_map f st st' w w' word word' last before a [] h k s = (s.0, ap f s.1)
  seg_map f st st' w w' word word' last before a (x ∷ xs) h k s =
      let K = k x (inl refl) in (
        record {
          at = s.0.at;
          low = s.0.low;
          occupied = K.occupied s.0.occupied;
          names = K.names;
          prev = K.prev ∙ ap f s.0.prev;
        },
        rw (← h x s.0.low, K.next)
            (seg_map f st st' w w' word word' last (start p x) (get_or w.next x 0) xs h (λ z i. k z (inr i)) s.1),
      )

  -- under words that say the same of each of its blocks
  pub seg_same : (st st' : List ℕ) (w w' : Words) (word last before a : ℕ) (xs : List ℕ)
      → ((b : ℕ) → In b xs → Same st st' w w' b) → Seg p st w word last before a xs → Seg p st' w' word last before a xs
  seg_same st st' w w' word last before a xs f s =
      seg_map (λ k. k) st st' w w' word word last before a xs (λ b h. refl)
      (λ x i. record {
        occupied = (f x i).occupied;
        names = (f x i).list ∙ (seg_on st w word last before a xs s x i).names;
        prev = (f x i).prev;
        next = (f x i).next;
      })
      s

-- ---- no block stands twice in a run

module _ (p : Params) (B : Bounds p) (st : List ℕ) (w : Words) (word last : ℕ) where
  -- the blocks from a link on are as many by any account
  seg_length : (b c a : ℕ) (xs ys : List ℕ) → Seg p st w word last b a xs → Seg p st w word last c a ys → length xs ≡ length ys
  unfolding Seg
  seg_length b c a [] [] s t = refl
  seg_length b c a [] (y ∷ ys) s t = absurd (some_start p B y t.0.low (sym t.0.at ∙ s.0))
  seg_length b c a (x ∷ xs) [] s t = absurd (some_start p B x s.0.low (sym s.0.at ∙ t.0))
  seg_length b c a (x ∷ xs) (y ∷ ys) s t =
      let e : y ≡ x = start_same p B y x t.0.low s.0.low (sym t.0.at ∙ s.0.at) in
      ap suc (seg_length (start p x) (start p x) (get_or w.next x 0) xs ys s.1
      (subst (λ (z : ℕ). Seg p st w word last (start p z) (get_or w.next z 0) ys) e t.1))

  -- what stands from the block x on
  record Tail (x long : ℕ) : Type 0 where
    before : ℕ
    rest : List ℕ
    from : Seg p st w word last before (start p x) (x ∷ rest)
    short : length rest < long

  -- a block of a run has its tail
  seg_tail : (b a x : ℕ) (xs : List ℕ) → Seg p st w word last b a xs → In x xs → Tail x (length xs)
  unfolding Seg In
  seg_tail b a x [] s m = absurd m
  seg_tail b a x (y ∷ ys) s (inl e) =
      record {
        before = b;
        rest = ys;
        from = subst (λ (z : ℕ). Seg p st w word last b (start p z) (z ∷ ys)) (sym e)
            (subst (λ (z : ℕ). Seg p st w word last b z (y ∷ ys)) s.0.at s);
        short = omega arith;
      }
  seg_tail b a x (y ∷ ys) s (inr m) =
      let r = seg_tail (start p y) (get_or w.next y 0) x ys s.1 m in
      record { before = r.before; rest = r.rest; from = r.from; short = omega (arith, r.short) }

  pub seg_distinct : (b a : ℕ) (xs : List ℕ) → Seg p st w word last b a xs → Distinct xs
  unfolding Seg Distinct
  seg_distinct b a [] s = tt
  seg_distinct b a (x ∷ xs) s = (⊎_elim twice (λ z. z) (Bool_cases (member x xs)), seg_distinct (start p x) (get_or w.next x 0) xs s.1)
    where
      twice : member x xs ≡ true → member x xs ≡ false
      twice m =
          let r = seg_tail (start p x) (get_or w.next x 0) x xs s.1 (member_in x xs m) in
          let whole : Seg p st w word last b (start p x) (x ∷ xs) = subst (λ (z : ℕ). Seg p st w word last b z (x ∷ xs)) s.0.at s in
          let same : length (x ∷ xs) ≡ length (x ∷ r.rest) = seg_length b r.before (start p x) (x ∷ xs) (x ∷ r.rest) whole r.from in
          absurd (omega (arith, same, r.short))

  -- so they are no more than there are blocks
  pub seg_short : (b a : ℕ) (xs : List ℕ) → Seg p st w word last b a xs → length xs ≤ p.blocks
  seg_short b a xs s = distinct_short p.blocks xs (seg_distinct b a xs s) (seg_under p st w word last b a xs s)

-- ---- lists

-- what `Lists` goes by
pub record Links : Type 0 where
  pub first : List ℕ
  pub last : List ℕ
  pub next : List ℕ
  pub prev : List ℕ
  pub list : List ℕ

abbrev pub links_of : Words → Links
links_of w = record { first = w.first; last = w.last; next = w.next; prev = w.prev; list = w.list }

module _ (p : Params) where
  module _ {st : List ℕ} {w : Words} {L : ℕ → List ℕ} (K : Lists p st w L) where
    -- a block on the list l is occupied and names the list
    pub on_list : (l b : ℕ) → l < 1470 → In b (L l) → On p st w (list_word l) b
    on_list l b low i = seg_on p st w (list_word l) (get_or w.last l 0) 0 (get_or w.first l 0) (L l) (K.seg l low) b i

    -- so a free block is on none
    pub free_off : (b : ℕ) → get_or st b 0 ≡ 0 → Off L b
    unfolding Off
    free_off b e l low i = (on_list l b low i).occupied e

    -- no block is on two lists
    pub one_list : (l m b : ℕ) → l < 1470 → m < 1470 → In b (L l) → In b (L m) → l ≡ m
    one_list l m b hl hm i j = word_same l m (sym (on_list l b hl i).names ∙ (on_list m b hm j).names)

    -- nor twice on one
    pub lists_distinct : Bounds p → (l : ℕ) → l < 1470 → Distinct (L l)
    lists_distinct B l low = seg_distinct p B st w (list_word l) (get_or w.last l 0) 0 (get_or w.first l 0) (L l) (K.seg l low)

    -- other words and states: enough that they say the same of each list and of each block on one
    pub lists_keep : {st' : List ℕ} {w' : Words} → ((l : ℕ) → get_or w'.first l 0 ≡ get_or w.first l 0)
        → ((l : ℕ) → get_or w'.last l 0 ≡ get_or w.last l 0) → ((l b : ℕ) → l < 1470 → In b (L l) → Same st st' w w' b)
        → Lists p st' w' L
    lists_keep {st'} {w'} ef el f =
        record { seg = λ l low. rw (ef l, el l) (seg_same p st st' w w' (list_word l) (get_or w.last l 0) 0 (get_or w.first l 0) (L l) (λ b i. f l b low i) (K.seg l low)) }

    -- the same links, and all blocks on lists stay occupied
    pub lists_same : {st' : List ℕ} {w' : Words} → links_of w' ≡ links_of w → ((l b : ℕ) → l < 1470 → In b (L l) → get_or st' b 0 ≢ 0)
        → Lists p st' w' L
    lists_same e f =
        lists_keep (λ l. ap (λ (x : Links). get_or x.first l 0) e) (λ l. ap (λ (x : Links). get_or x.last l 0) e)
        (λ l b low i. record {
          occupied = λ o. f l b low i;
          next = ap (λ (x : Links). get_or x.next b 0) e;
          prev = ap (λ (x : Links). get_or x.prev b 0) e;
          list = ap (λ (x : Links). get_or x.list b 0) e;
        })

    -- stores into the words of a block on no list
    pub lists_off : {st' : List ℕ} {w' : Words} (b : ℕ) → Off L b → w'.first ≡ w.first → w'.last ≡ w.last
        → ((x : ℕ) → x ≢ b → Same st st' w w' x) → Lists p st' w' L
    unfolding Off
    lists_off b off ef el f =
        lists_keep (λ l. ap (λ (x : List ℕ). get_or x l 0) ef) (λ l. ap (λ (x : List ℕ). get_or x l 0) el)
        (λ l x low i. f x (λ e. off l low (subst (λ (k : ℕ). In k (L l)) e i)))

    -- one list is put in place of another: enough that the words link it, and say the same of all other lists
    pub lists_put : (w' : Words) (l : ℕ) (xs : List ℕ) → Run p st w' l xs
        → ((m : ℕ) → m ≢ l → get_or w'.first m 0 ≡ get_or w.first m 0)
        → ((m : ℕ) → m ≢ l → get_or w'.last m 0 ≡ get_or w.last m 0)
        → ((m b : ℕ) → m < 1470 → m ≢ l → In b (L m) → Same st st w w' b)
        → Lists p st w' (put l xs L)
    lists_put w' l xs s ef el f =
        record {
          seg = put_all l xs L (λ m ys. m < 1470 → Run p st w' m ys) (λ low. s)
              (λ m g low. rw (ef m g, el m g) (seg_same p st st w w' (list_word m) (get_or w.last m 0) 0 (get_or w.first m 0) (L m) (λ b i. f m b low g i) (K.seg m low)));
        }

  module _ (B : Bounds p) {st : List ℕ} {w : Words} {L : ℕ → List ℕ} (K : Lists p st w L) (l : ℕ) (low : l < 1470) where
    -- an empty list has no first
    pub first_none : L l ≡ [] → get_or w.first l 0 ≡ 0
    unfolding Seg
    first_none e = (subst (Run p st w l) e (K.seg l low)).0

    -- the first of a list with blocks
    pub first_some : (x : ℕ) (xs : List ℕ) → L l ≡ x ∷ xs → Here p st w (list_word l) 0 (get_or w.first l 0) x
    unfolding Seg
    first_some x xs e = (subst (Run p st w l) e (K.seg l low)).0

    -- an empty list is one without a first
    pub none_first : get_or w.first l 0 ≡ 0 → L l ≡ []
    none_first h = go (L l) refl
      where
        go : (xs : List ℕ) → L l ≡ xs → L l ≡ []
        go [] e = e
        go (y ∷ ys) e = let H = first_some y ys e in absurd (some_start p B y H.low (sym H.at ∙ h))
