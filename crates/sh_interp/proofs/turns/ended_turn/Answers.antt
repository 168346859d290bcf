use Rattle.std.proofs.Common.{◌≡◌, refl, sym}
use Rattle.sh_interp.specs.Views.{setting_of}
use Rattle.sh_interp.proofs.turns.ended_turn.Goals as goal

pub returns-in-Script : goal.returns-in-Script
returns-in-Script c = rw c.in-Script.is (c.script.ensures (setting_of c.args.setting.now))

pub returns-in-Links : goal.returns-in-Links
returns-in-Links c = rw c.in-Links.is (c.links.ensures (setting_of c.args.setting.now))

pub returns-in-Stage : goal.returns-in-Stage
returns-in-Stage c = rw c.in-Stage.is (c.handed.ensures (setting_of c.args.setting.now) c.args.flow)

pub returns-in-Branch : goal.returns-in-Branch
returns-in-Branch c = rw c.in-Branch.is (c.branch-place.ensures (setting_of c.args.setting.now))

pub returns-in-LoopTest : goal.returns-in-LoopTest
returns-in-LoopTest c = rw c.in-LoopTest.is (c.tested.ensures (setting_of c.args.setting.now))

pub returns-in-LoopBody : goal.returns-in-LoopBody
returns-in-LoopBody c = rw c.in-LoopBody.is (c.again.ensures (setting_of c.args.setting.now))

pub returns-in-Round : goal.returns-in-Round
returns-in-Round c = rw c.in-Round.is (c.round.ensures (setting_of c.args.setting.now))
