use Rattle.run_moves.specs.Opened.{open_of}
use Rattle.run_moves.specs.At.{seat_at}
use Rattle.run_moves.proofs.SetValue.{unfound, unlike, unwritten, value_written}
use Rattle.run_moves.proofs.operation.set_value.Goals as goal
use Rattle.pg_value.specs.Value.{datum_of}

pub returns-in-Err-clause-acted : goal.returns-in-Err-clause-acted
returns-in-Err-clause-acted g c = λ serving.
    let seat = seat_at c.args.at.now in
    unfound c.args.at.now.cell.place c.args.setting.now.place.now c.args.setting.now.name.now c.args.setting.now.property.now (datum_of c.in-Some.value) serving seat c.args.at.now.pc (open_of c.args.opened.now) c.pop.new.self c.in-Some.ensures c.args.world.now
    c.find_property.new.world c.fail.new.world c.in-Err.failed (open_of c.fail.new.opened) c.fail.result c.in-Err.ensures.does c.fail.ensures.acted c.fail.ensures.short

pub returns-in-Err-replaced-clause-acted : goal.returns-in-Err-replaced-clause-acted
returns-in-Err-replaced-clause-acted g c = λ serving.
    let seat = seat_at c.args.at.now in
    unlike c.args.at.now.cell.place c.args.setting.now.place.now c.args.setting.now.name.now c.args.setting.now.property.now (datum_of c.in-Some.value) serving seat c.args.at.now.pc (open_of c.args.opened.now) c.pop.new.self c.in-Some.ensures c.args.world.now
    c.find_property.new.world c.fail_at.new.world c.in-Ok.found c.in-Err-replaced.failed (open_of c.fail_at.new.opened) c.fail_at.result c.in-Ok.ensures.does c.in-Err-replaced.ensures
    c.fail_at.ensures.acted c.fail_at.ensures.short

pub returns-clause-acted : goal.returns-clause-acted
returns-clause-acted g c = λ serving.
    let seat = seat_at c.args.at.now in
    unwritten c.args.at.now.cell.place c.args.setting.now.place.now c.args.setting.now.name.now c.args.setting.now.property.now (datum_of c.in-Some.value) serving seat c.args.at.now.pc (open_of c.args.opened.now) c.pop.new.self c.in-Some.ensures c.args.world.now
    c.find_property.new.world c.write_back.new.world c.fail-in-Err-write_back.new.world c.in-Ok.found c.in-Ok-replaced.made c.in-Err-write_back.failed (open_of c.fail-in-Err-write_back.new.opened)
    c.fail-in-Err-write_back.result c.in-Ok.ensures.does c.in-Ok-replaced.ensures c.in-Err-write_back.ensures.does c.fail-in-Err-write_back.ensures.acted c.fail-in-Err-write_back.ensures.short

pub returns-in-Ok-write_back-clause-acted : goal.returns-in-Ok-write_back-clause-acted
returns-in-Ok-write_back-clause-acted g c = λ serving.
    let seat = seat_at c.args.at.now in
    value_written c.args.at.now.cell.place c.args.setting.now.place.now c.args.setting.now.name.now c.args.setting.now.property.now (datum_of c.in-Some.value) serving seat c.args.at.now.pc (open_of c.args.opened.now) c.pop.new.self c.in-Some.ensures c.args.world.now
    c.find_property.new.world c.write_back.new.world c.in-Ok.found c.in-Ok-replaced.made c.in-Ok.ensures.does c.in-Ok-replaced.ensures c.in-Ok-write_back.ensures.does
