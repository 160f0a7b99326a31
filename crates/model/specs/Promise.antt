-- What a public call promises: its answer and every lent word and byte after it are those of the machine, refused or not.
use Rattle.std.specs.Prelude.{◌≡◌, List, ℕ}
use Rattle.model.specs.declared.Params.{Params}
use Rattle.model.specs.Params.{Lent}
use Rattle.model.specs.Calls.{Reply, Call, call, set_up}

-- the four lists that are lent
abbrev pub lend : List ℕ → List ℕ → List ℕ → List ℕ → Lent
lend ws st ms h = record { words = ws; states = st; marks = ms; heap = h }

-- every call but set-up: l is lent before, l' after
pub record Promised (p : Params) (l : Lent) (c : Call) (gave : Reply) (l' : Lent) : Type 0 where
  pub reply : gave ≡ (call p l c).reply
  pub lent : l' ≡ (call p l c).lent

pub record SetUpPromised (p : Params) (l : Lent) (gave : Reply) (l' : Lent) : Type 0 where
  pub reply : gave ≡ (set_up p l).reply
  pub lent : l' ≡ (set_up p l).lent
