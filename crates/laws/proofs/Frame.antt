-- List operations change the links and list words alone: every other field of the words stays. Assumes nothing.
use Rattle.std.specs.Prelude.{if◌then◌else◌}
use Prim.Native.Nat.{ℕ, zero, suc, ◌<◌}
use mathlib.Core.Path.{◌≡◌, refl, sym, ap, ◌∙◌, subst}
use mathlib.Core.Logic.{◌≢◌}
use mathlib.Core.List.{List}
use mathlib.Core.Bool.{Bool, true, false}
use lib.Dec.{eqb}
use native.Mathlib.Decide.{ℕ_discrete}
use native.Mathlib.Omega.{arith}
use lib.ListN.{length, get_or, set, length-set}
use lib.Seq.{get_or-set_same, get_or-set_other}
use borrow.Author.Tests.{eq-eqb, ne_eqb}
use Rattle.model.specs.declared.Params.{Params}
use Rattle.model.specs.Base.{each_below}
use Rattle.model.specs.Params.{start, block_at, list_word}
use Rattle.model.specs.Tables.{Words, set_first, set_last, set_next, set_prev, set_list}
use Rattle.laws.proofs.Tables.{lengths, lengths_set_first, lengths_set_last, lengths_set_next, lengths_set_prev, lengths_set_list}
use Rattle.model.specs.BlockList.{push, pop_head, pop, Popped, popped, remove, remove_between, relabel, link, append}
use Rattle.laws.proofs.BlockList.{push_only, push_ahead, pop_at, pop_only, pop_ahead}

-- what list operations leave
pub record LinksOnly (t t' : Words) : Type 0 where
  pub phase : t'.phase ≡ t.phase
  pub bound : t'.bound ≡ t.bound
  pub released : t'.released ≡ t.released
  pub free : t'.free ≡ t.free
  pub size : t'.size ≡ t.size
  pub tls : t'.tls ≡ t.tls
  pub cells : t'.cells ≡ t.cells
  pub lengths : lengths t' ≡ lengths t

pub links_refl : (t : Words) → LinksOnly t t
links_refl t = record { phase = refl; bound = refl; released = refl; free = refl; size = refl; tls = refl; cells = refl; lengths = refl }

-- a store that leaves all these leaves them still
stored : {t u : Words} (v : Words) → LinksOnly t u → v.phase ≡ u.phase → v.bound ≡ u.bound → v.released ≡ u.released
    → v.free ≡ u.free → v.size ≡ u.size → v.tls ≡ u.tls → v.cells ≡ u.cells → lengths v ≡ lengths u
    → LinksOnly t v
stored v a ph bo re fr si tl ce le =
    record {
      phase = ph ∙ a.phase;
      bound = bo ∙ a.bound;
      released = re ∙ a.released;
      free = fr ∙ a.free;
      size = si ∙ a.size;
      tls = tl ∙ a.tls;
      cells = ce ∙ a.cells;
      lengths = le ∙ a.lengths;
    }

-- one link or list word stored
pub first_links : {t u : Words} (i v : ℕ) → LinksOnly t u → LinksOnly t (set_first i v u)
unfolding set_first
first_links i v a = stored _ a refl refl refl refl refl refl refl (lengths_set_first i v _)

pub last_links : {t u : Words} (i v : ℕ) → LinksOnly t u → LinksOnly t (set_last i v u)
unfolding set_last
last_links i v a = stored _ a refl refl refl refl refl refl refl (lengths_set_last i v _)

pub next_links : {t u : Words} (i v : ℕ) → LinksOnly t u → LinksOnly t (set_next i v u)
unfolding set_next
next_links i v a = stored _ a refl refl refl refl refl refl refl (lengths_set_next i v _)

pub prev_links : {t u : Words} (i v : ℕ) → LinksOnly t u → LinksOnly t (set_prev i v u)
unfolding set_prev
prev_links i v a = stored _ a refl refl refl refl refl refl refl (lengths_set_prev i v _)

pub list_links : {t u : Words} (i v : ℕ) → LinksOnly t u → LinksOnly t (set_list i v u)
unfolding set_list
list_links i v a = stored _ a refl refl refl refl refl refl refl (lengths_set_list i v _)

-- either way of a test
pub if_links : {t x y : Words} (b : Bool) → LinksOnly t x → LinksOnly t y → LinksOnly t (if b then x else y)
if_links true f g = f
if_links false f g = g

if_popped :
    {t : Words} (b : Bool) (x y : Popped) → LinksOnly t x.words → LinksOnly t y.words
    → LinksOnly t (if b then x else y).words
if_popped true x y f g = f
if_popped false x y f g = g

module _ (p : Params) where
  pub push_links : {t₀ : Words} (l b : ℕ) (t : Words) → LinksOnly t₀ t → LinksOnly t₀ (push p l b t)
  unfolding push push_only push_ahead
  push_links l b t a =
      if_links (eqb (get_or t.first l 0) 0)
      (list_links _ _ (last_links _ _ (first_links _ _ (prev_links _ _ (next_links _ _ a)))))
      (list_links _ _ (first_links _ _ (prev_links _ _ (prev_links _ _ (next_links _ _ a)))))

  pop_at_links : {t₀ : Words} (l h : ℕ) (t : Words) → LinksOnly t₀ t → LinksOnly t₀ (pop_at p l h t)
  unfolding pop_at pop_only pop_ahead
  pop_at_links l h t a =
      if_links (eqb (get_or t.next h 0) 0)
      (prev_links _ _ (next_links _ _ (last_links _ _ (first_links _ _ a))))
      (prev_links _ _ (next_links _ _ (list_links _ _ (prev_links _ _ (first_links _ _ a)))))

  pub pop_links : {t₀ : Words} (l : ℕ) (t : Words) → LinksOnly t₀ t → LinksOnly t₀ (pop p l t).words
  unfolding pop pop_ahead pop_only pop_at pop_head
  pop_links l t a =
      if_popped (eqb (get_or t.first l 0) 0) (popped 0 t) _ a (pop_at_links l (block_at p (get_or t.first l 0)) t a)

  pub remove_links : {t₀ : Words} (l b : ℕ) (t : Words) → LinksOnly t₀ t → LinksOnly t₀ (remove p l b t)
  unfolding remove remove_between
  remove_links l b t a =
      if_links (eqb (get_or t.prev b 0) 0)
      (if_links (eqb (get_or t.next b 0) 0) (last_links _ _ (first_links _ _ a))
      (list_links _ _ (first_links _ _ (prev_links _ _ a))))
      (if_links (eqb (get_or t.next b 0) 0) (list_links _ _ (last_links _ _ (next_links _ _ a)))
      (prev_links _ _ (next_links _ _ a)))

  -- what each list word stored keeps, relabel keeps
  pub relabel_keeps :
      (P : Words → Type 0) (l : ℕ) → ((b : ℕ) (t : Words) → P t → P (set_list b (list_word l) t))
      → (k a : ℕ) (t : Words) → P t → P (relabel k p l a t)
  unfolding relabel
  relabel_keeps P l step zero a t h = h
  relabel_keeps P l step (suc k) a t h = either (eqb a 0) _ h (relabel_keeps P l step k _ _ (step _ t h))
    where
      either : (c : Bool) (y : Words) → P t → P y → P (if c then t else y)
      either true y f g = f
      either false y f g = g

  link_links : {t₀ : Words} (l o : ℕ) (t : Words) → LinksOnly t₀ t → LinksOnly t₀ (link p l o t)
  unfolding link
  link_links l o t a =
      if_links (eqb (get_or t.first l 0) 0) (last_links _ _ (first_links _ _ a))
      (last_links _ _ (prev_links _ _ (next_links _ _ a)))

  pub append_links : {t₀ : Words} (l o : ℕ) (t : Words) → LinksOnly t₀ t → LinksOnly t₀ (append p l o t)
  unfolding append
  append_links l o t a =
      if_links (eqb (get_or t.first o 0) 0) a
      (last_links _ _ (first_links _ _ (relabel_keeps (LinksOnly _) l (λ b u. list_links b _) p.blocks _ _ (link_links l o t a))))

-- what grows with the rounds is whole at the end
pub each_grows :
    {A : Type 0} (P : ℕ → A → Type 0) (n : ℕ) (f : ℕ → A → A) → ((i : ℕ) → i < n → (x : A) → P i x → P (suc i) (f i x))
    → (x : A) → P 0 x → P n (each_below n f x)
unfolding each_below
each_grows P zero f h x q = q
each_grows P (suc n) f h x q = h n (omega arith) _ (each_grows P n f (λ i l. h i (omega arith)) x q)

-- what holds at the start and after each round holds at the end
pub each_keeps :
    {A : Type 0} (P : A → Type 0) (n : ℕ) (f : ℕ → A → A) → ((i : ℕ) → i < n → (x : A) → P x → P (f i x))
    → (x : A) → P x → P (each_below n f x)
each_keeps P n f h x q = each_grows (λ i y. P y) n f h x q

-- ---- first words: an operation on lists changes those of its lists alone

-- the first words of other lists than l and o stay
unfoldable pub FirstsBut : ℕ → ℕ → Words → Words → Type 0
FirstsBut l o t t' = (m : ℕ) → m ≢ l → m ≢ o → get_or t'.first m 0 ≡ get_or t.first m 0

if_first : (l o : ℕ) (t : Words) (b : Bool) (x y : Words) → FirstsBut l o t x → FirstsBut l o t y → FirstsBut l o t (if b then x else y)
if_first l o t true x y f g = f
if_first l o t false x y f g = g

module _ (p : Params) where
  -- push: the block's list word, and the list's first
  pub push_list : (l b : ℕ) (t : Words) → (push p l b t).list ≡ set t.list b (list_word l)
  unfolding push push_only push_ahead set_first set_last set_next set_prev set_list
  push_list l b t = if_list (eqb (get_or t.first l 0) 0) _ _ refl refl
    where
      if_list : {v : List ℕ} (c : Bool) (x y : Words) → x.list ≡ v → y.list ≡ v → (if c then x else y).list ≡ v
      if_list true x y e f = e
      if_list false x y e f = f

  pub push_first : (l b : ℕ) (t : Words) → (push p l b t).first ≡ set t.first l (start p b)
  unfolding push push_only push_ahead set_first set_last set_next set_prev set_list
  push_first l b t = if_field (eqb (get_or t.first l 0) 0) _ _ refl refl
    where
      if_field : {v : List ℕ} (c : Bool) (x y : Words) → x.first ≡ v → y.first ≡ v → (if c then x else y).first ≡ v
      if_field true x y e f = e
      if_field false x y e f = f

  pub pop_firsts : (l : ℕ) (t : Words) → FirstsBut l l t (pop p l t).words
  unfolding FirstsBut pop pop_head pop_at pop_only pop_ahead set_first set_last set_next set_prev set_list
  pop_firsts l t = one (eqb (get_or t.first l 0) 0)
    where
      B : ℕ
      B = block_at p (get_or t.first l 0)

      two : (c : Bool) → FirstsBut l l t (if c then pop_only l B t else pop_ahead p l B (get_or t.next B 0) t)
      two true = λ m f g. get_or-set_other t.first l m _ 0 f
      two false = λ m f g. get_or-set_other t.first l m _ 0 f

      one : (c : Bool) → FirstsBut l l t (if c then popped 0 t else popped (get_or t.first l 0) (pop_at p l B t)).words
      one true = λ m f g. refl
      one false = two (eqb (get_or t.next B 0) 0)

  pub remove_first : (l b : ℕ) (t : Words) → FirstsBut l l t (remove p l b t)
  unfolding FirstsBut remove remove_between set_first set_last set_next set_prev set_list
  remove_first l b t =
      if_first l l t (eqb (get_or t.prev b 0) 0) _ _
      (if_first l l t (eqb (get_or t.next b 0) 0) _ _ (λ m f g. get_or-set_other t.first l m _ 0 f) (λ m f g. get_or-set_other t.first l m _ 0 f))
      (if_first l l t (eqb (get_or t.next b 0) 0) _ _ (λ m f g. refl) (λ m f g. refl))

  relabel_first : (k l a : ℕ) (t : Words) → (relabel k p l a t).first ≡ t.first
  unfolding set_list
  relabel_first k l a t = relabel_keeps p (λ (u : Words). u.first ≡ t.first) l (λ b u e. e) k a t refl

  link_first : (l o : ℕ) (t : Words) → FirstsBut l o t (link p l o t)
  unfolding FirstsBut link set_first set_last set_next set_prev
  link_first l o t = if_first l o t (eqb (get_or t.first l 0) 0) _ _ (λ m f g. get_or-set_other t.first l m _ 0 f) (λ m f g. refl)

  -- linking two lists stores no list word
  pub link_list : (l o : ℕ) (t : Words) → (link p l o t).list ≡ t.list
  unfolding link set_first set_last set_next set_prev
  link_list l o t = go (eqb (get_or t.first l 0) 0)
    where
      go : (c : Bool) → (if c then set_last l (get_or t.last o 0) (set_first l (get_or t.first o 0) t)
          else set_last l (get_or t.last o 0) (set_prev (block_at p (get_or t.first o 0)) (get_or t.last l 0) (set_next (block_at p (get_or t.last l 0)) (get_or t.first o 0) t))).list ≡ t.list
      go true = refl
      go false = refl

  pub append_first : (l o : ℕ) (t : Words) → FirstsBut l o t (append p l o t)
  unfolding append set_first set_last FirstsBut
  append_first l o t =
      if_first l o t (eqb (get_or t.first o 0) 0) _ _ (λ m f g. refl)
      (λ m f g. get_or-set_other R.first o m 0 0 g ∙ ap (λ (x : List ℕ). get_or x m 0) (relabel_first p.blocks l (get_or t.first o 0) (link p l o t)) ∙ link_first l o t m f g)
    where
      R : Words
      R = relabel p.blocks p l (get_or t.first o 0) (link p l o t)

  -- the list appended is empty then
  pub append_empties : (l o : ℕ) (t : Words) → o < length t.first → get_or (append p l o t).first o 0 ≡ 0
  unfolding append set_first set_last link set_prev set_next
  append_empties l o t low = go (ℕ_discrete (get_or t.first o 0) 0)
    where
      R : Words
      R = relabel p.blocks p l (get_or t.first o 0) (link p l o t)

      room : (c : Bool) → o < length (if c then set_last l (get_or t.last o 0) (set_first l (get_or t.first o 0) t)
          else set_last l (get_or t.last o 0) (set_prev (block_at p (get_or t.first o 0)) (get_or t.last l 0) (set_next (block_at p (get_or t.last l 0)) (get_or t.first o 0) t))).first
      room true = subst (λ (x : ℕ). o < x) (sym (length-set t.first l (get_or t.first o 0))) low
      room false = low

      go : Dec (get_or t.first o 0 ≡ 0) → get_or (append p l o t).first o 0 ≡ 0
      go (yes e) = rw (eq-eqb _ _ e) e
      go (no f) = rw (ne_eqb _ _ f) (get_or-set_same R.first o 0 0 (subst (λ (x : List ℕ). o < length x) (sym (relabel_first p.blocks l (get_or t.first o 0) (link p l o t))) (room (eqb (get_or t.first l 0) 0))))

  -- an empty list is appended by doing nothing
  pub append_none : (l o : ℕ) (t : Words) → get_or t.first o 0 ≡ 0 → append p l o t ≡ t
  unfolding append
  append_none l o t e = rw (eq-eqb _ _ e)
