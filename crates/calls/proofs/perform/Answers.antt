-- `perform` meets its contract: a law for each call. Leans on the library's promises.
use Rattle.model.specs.Answers.{call_of}
use Rattle.calls.proofs.Outcome.{of_call}
use Rattle.calls.proofs.perform.Goals as goal

pub returns-in-Bind : goal.returns-in-Bind
unfolding call_of
returns-in-Bind c = of_call c.in-Bind.is c.bind.ensures c.from.ensures

pub returns-in-Destroy : goal.returns-in-Destroy
unfolding call_of
returns-in-Destroy c = of_call c.in-Destroy.is c.destroy.ensures c.from-in-Destroy.ensures

pub returns-in-Alloc : goal.returns-in-Alloc
unfolding call_of
returns-in-Alloc c = of_call c.in-Alloc.is c.alloc.ensures c.from-in-Alloc.ensures

pub returns-in-Prepare : goal.returns-in-Prepare
unfolding call_of
returns-in-Prepare c = of_call c.in-Prepare.is c.prepare.ensures c.from-in-Prepare.ensures

pub returns-in-Mark : goal.returns-in-Mark
unfolding call_of
returns-in-Mark c = of_call c.in-Mark.is c.mark.ensures c.from-in-Mark.ensures

pub returns-in-Release : goal.returns-in-Release
unfolding call_of
returns-in-Release c = of_call c.in-Release.is c.release.ensures c.from-in-Release.ensures

pub returns-in-SharedRelease : goal.returns-in-SharedRelease
unfolding call_of
returns-in-SharedRelease c = of_call c.in-SharedRelease.is c.shared_release.ensures c.from-in-SharedRelease.ensures
