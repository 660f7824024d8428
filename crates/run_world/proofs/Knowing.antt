-- What is known of a run's surroundings stays known.
use Rattle.std.proofs.Common.{ℕ, List, Result}
use Rattle.run_world.specs.Known.{ServesSo, Known}
use Rattle.run_world.specs.Origin.{Origin}
use Rattle.run_world.specs.Part.{Doing, Changes}
use Rattle.run_world.specs.declared.served.Served as machine_served
use Rattle.page_meaning.specs.State.{State}
use Rattle.page_meaning.specs.Went.{Went}
use Rattle.page_table.specs.Program.{Stored, Serving}
use Rattle.pg_text.specs.declared.failure.Failure.{Failure}
use Rattle.pg_text.specs.declared.place.Place.{Place}
use Rattle.pg_value.specs.declared.fault.RunFault.{RunFault}
use Rattle.site_words.specs.Law.{Answer}

module _ {W : Type 0} {reached : W → Origin → W → State → Type 0} {stores : W → ((path : List ℕ) → Stored) → Type 0}
    (stores_on : (first w : W) (origin : Origin) (s : State) (stored : (path : List ℕ) → Stored) → reached first origin w s → stores first stored → stores w stored)
    (again : (first w : W) (origin : Origin) (s : State) → reached first origin w s → reached w origin w s) (served : machine_served.Served) where
  -- a serving that agrees with a world agrees with each that is reached from it
  pub serves_on : (w mid : W) (origin : Origin) (s : State) (serving : Serving) → reached w origin mid s → ServesSo stores served w serving → ServesSo stores served mid serving
  serves_on w mid origin s serving h serves = record { request = serves.request; exception = serves.exception; stored = stores_on w mid origin s serving.stored h serves.stored }

  pub known_on : (w mid : W) (k : Known reached stores served w) (s : State) → reached w k.origin mid s → Known reached stores served mid
  known_on w mid k s h = record {
    serving = k.serving;
    serves = serves_on w mid k.origin s k.serving h k.serves;
    fits = k.fits;
    origin = k.origin;
    state = s;
    stands = again w mid k.origin s h;
  }

  pub known_changed : (w mid : W) (change : State → State) → Known reached stores served w → Changes reached change w mid → Known reached stores served mid
  known_changed w mid change k changes = known_on w mid k (change k.state) (changes.by w k.origin k.state k.stands)

  pub known_done : {A B : Type 0} {view : A → B} {part : Place → State → Went B} {replies : W → List Answer} (w mid : W) (result : Result A (Failure RunFault)) → Known reached stores served w
      → Doing reached replies view part w mid result → Known reached stores served mid
  known_done w mid result k does = let d = does.by w k.origin k.state k.stands in known_on w mid k d.after d.stood

  -- a serving that agrees still agrees
  pub serves_changed : (w mid : W) (change : State → State) (serving : Serving) → Known reached stores served w → Changes reached change w mid → ServesSo stores served w serving → ServesSo stores served mid serving
  serves_changed w mid change serving k changes h = serves_on w mid k.origin (change k.state) serving (changes.by w k.origin k.state k.stands) h

  pub serves_done : {A B : Type 0} {view : A → B} {part : Place → State → Went B} {replies : W → List Answer} (w mid : W) (result : Result A (Failure RunFault)) (serving : Serving) → Known reached stores served w
      → Doing reached replies view part w mid result → ServesSo stores served w serving → ServesSo stores served mid serving
  serves_done w mid result serving k does h = let d = does.by w k.origin k.state k.stands in serves_on w mid k.origin d.after serving d.stood h
