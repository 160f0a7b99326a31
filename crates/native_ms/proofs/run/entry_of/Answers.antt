-- `run::entry_of` reads what six words ask: a law for each kind. Assumes nothing.
use Rattle.std.specs.Prelude.{Some, Option}
use mathlib.Core.Path.{refl, ap, ◌∙◌}
use lib.ListN.{get_or}
use Rattle.model.specs.declared.Block.{Block}
use Rattle.model.specs.Calls.{alloc}
use Rattle.model.specs.Answers.{call_of}
use Rattle.native_ms.specs.RunLoop.{entry_call}
use Rattle.native_ms.proofs.RunLaws.{kind_is, kind_none}
use Rattle.native_ms.proofs.run.entry_of.Goals as goal

pub returns-in-1 : goal.returns-in-1
unfolding entry_call call_of
returns-in-1 c = kind_is c.args.call.now 1 c.in-1.is

pub returns-in-2 : goal.returns-in-2
unfolding entry_call call_of
returns-in-2 c = kind_is c.args.call.now 2 c.in-2.is

pub returns-in-3 : goal.returns-in-3
unfolding entry_call call_of
returns-in-3 c = ap (λ (offer : Option Block). Some (alloc (get_or c.args.call.now 1 0) (get_or c.args.call.now 2 0) (get_or c.args.call.now 3 0) (get_or c.args.call.now 4 0) offer)) c.offered.ensures ∙ kind_is c.args.call.now 3 c.in-3.is

pub returns-in-4 : goal.returns-in-4
unfolding entry_call call_of
returns-in-4 c = kind_is c.args.call.now 4 c.in-4.is

pub returns-in-5 : goal.returns-in-5
unfolding entry_call call_of
returns-in-5 c = kind_is c.args.call.now 5 c.in-5.is

pub returns-in-6 : goal.returns-in-6
unfolding entry_call call_of
returns-in-6 c = kind_is c.args.call.now 6 c.in-6.is

pub returns-in-7 : goal.returns-in-7
unfolding entry_call call_of
returns-in-7 c = kind_is c.args.call.now 7 c.in-7.is

pub returns-in_default : goal.returns-in_default
unfolding entry_call
returns-in_default c = kind_none c.args.call.now refl c.in_default.in_default-own.rest.0.0.0.0.0.0.1 c.in_default.in_default-own.rest.0.0.0.0.0.1 c.in_default.in_default-own.rest.0.0.0.0.1 c.in_default.in_default-own.rest.0.0.0.1 c.in_default.in_default-own.rest.0.0.1 c.in_default.in_default-own.rest.0.1 c.in_default.in_default-own.rest.1
