-- `run::make` is `call` on what passed the first tests: each call's step on sound tables. Assumes nothing.
use mathlib.Core.Path.{refl}
use Rattle.model.specs.Answers.{call_of}
use Rattle.native_ms.proofs.Tests.{open_known, open_long}
use Rattle.native_ms.proofs.RunLaws.{call_made}
use Rattle.native_ms.proofs.run.make.Goals as goal

pub do_prepare-requires : goal.do_prepare-requires
do_prepare-requires c = open_long c.args.space.now.p _ _ _ _ c.requires

pub do_release-requires : goal.do_release-requires
do_release-requires c = open_known c.args.space.now.p _ _ _ _ c.requires

pub do_shared_release-requires : goal.do_shared_release-requires
do_shared_release-requires c = open_known c.args.space.now.p _ _ _ _ c.requires

pub returns-in-Bind : goal.returns-in-Bind
unfolding call_of
returns-in-Bind c = call_made c.args.space.now.p _ _ _ _ c.requires c.in-Bind.is c.do_bind.auto.w (c.do_bind.ensures _ _ _ _) c.from.ensures

pub returns-in-Destroy : goal.returns-in-Destroy
unfolding call_of
returns-in-Destroy c = call_made c.args.space.now.p _ _ _ _ c.requires c.in-Destroy.is c.do_destroy.auto.w (c.do_destroy.ensures _ _ _) c.from-in-Destroy.ensures

pub returns-in-Alloc : goal.returns-in-Alloc
unfolding call_of
returns-in-Alloc c = call_made c.args.space.now.p _ _ _ _ c.requires c.in-Alloc.is c.do_alloc.auto.words c.do_alloc.ensures c.from-in-Alloc.ensures

pub returns-in-Prepare : goal.returns-in-Prepare
unfolding call_of
returns-in-Prepare c = call_made c.args.space.now.p _ _ _ _ c.requires c.in-Prepare.is c.do_prepare.auto.w (c.do_prepare.ensures _ _) c.from-in-Prepare.ensures

pub returns-in-Mark : goal.returns-in-Mark
unfolding call_of
returns-in-Mark c = call_made c.args.space.now.p _ _ _ _ c.requires c.in-Mark.is refl (c.do_mark.ensures _) c.from-in-Mark.ensures

pub returns-in-Release : goal.returns-in-Release
unfolding call_of
returns-in-Release c = call_made c.args.space.now.p _ _ _ _ c.requires c.in-Release.is c.do_release.auto.w c.do_release.ensures c.from-in-Release.ensures

pub returns-in-SharedRelease : goal.returns-in-SharedRelease
unfolding call_of
returns-in-SharedRelease c = call_made c.args.space.now.p _ _ _ _ c.requires c.in-SharedRelease.is c.do_shared_release.auto.w c.do_shared_release.ensures c.from-in-SharedRelease.ensures
