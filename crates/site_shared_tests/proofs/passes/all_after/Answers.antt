use denote.Ref.{NamedLft}
use denote.Param.Send.{IsSync, arg_send, param_send, sendable}
use Rattle.std.proofs.Crossing.{crosses}
use Rattle.std.specs.contracts.alloc.Global as Heap
use Rattle.site_shared.specs.contracts.shared.SharedSite as SharedSite
use Rattle.site_shared.proofs.SharedCross.{shared_sync}
use Rattle.site_core_tests.proofs.word.Word.TheSendSync as word
use Rattle.site_core_tests.specs.contracts.word.Word as Word
use Rattle.site_core_tests.specs.contracts.word.WordCompiled.TheImpl as compiled
use Rattle.site_shared_tests.proofs.meeting.Counting.TheSendSync as counting
use Rattle.site_shared_tests.specs.contracts.meeting.Counting as Counting
use Rattle.site_shared_tests.specs.contracts.meeting.Job as Job
use mir.Syntax.{named}
use Rattle.turn_table.proofs.pass.Pass.TheSendSync as pass
use Rattle.site_shared.proofs.SharedCross.{seated_send}
use Rattle.site_shared_tests.proofs.meeting.Watch.TheSendSync as watch
use Rattle.site_shared_tests.proofs.visiting.Errand.TheSendSync as errand
use Rattle.site_shared_tests.proofs.passes.all_after.Goals as goal

-- the site of the tests, whose gate counts
words_sync : (a : NamedLft) → IsSync (SharedSite.the_row Word.the_row (Counting.the_row a) compiled.ghosts)
words_sync a = shared_sync Word.the_row (Counting.the_row a) compiled.ghosts word.the_send word.the_sync (counting.the_sync a)

heap_sync : IsSync Heap.the_row
heap_sync = search sendable depth 20

job_sync : IsSync Job.the_row
job_sync = search (crosses, sendable) depth 20

pub map_vec-requires-send-J : goal.map_vec-requires-send-J
map_vec-requires-send-J g c κs = search (pass.the_send, seated_send, word.the_send, word.the_sync, arg_send, param_send)

pub map_vec-requires-send-X : goal.map_vec-requires-send-X
map_vec-requires-send-X g c κs = search (pass.the_send, seated_send, word.the_send, word.the_sync, arg_send, param_send)

pub map_vec-requires-sync-F : goal.map_vec-requires-sync-F
map_vec-requires-sync-F g c κs lasting = record {
  shared = λ x b o ν. (
    (
      ((λ q. tt), c.type_bounds.sync-R.shared x.0.now x.0.ref_ptr.0 x.0.ref_ptr.1 κs.1.1.1.1.1.1.1.0),
      (
        ((λ q. tt), heap_sync.shared x.1.now x.1.ref_ptr.0 x.1.ref_ptr.1 κs.1.1.1.1.1.1.1.1.0),
        (
          ((λ q. tt), (words_sync (record { mir = named 10; lft = κs.1.1.1.1.1.1.1.1.1.1.0 })).shared x.2.now x.2.ref_ptr.0 x.2.ref_ptr.1 κs.1.1.1.1.1.1.1.1.1.0),
          (
            ((λ q. tt), watch.the_sync.shared x.3.now x.3.ref_ptr.0 x.3.ref_ptr.1 κs.1.1.1.1.1.1.1.1.1.1.1.0),
            (
              ((λ q. tt), errand.the_sync.shared x.4.now x.4.ref_ptr.0 x.4.ref_ptr.1 κs.1.1.1.1.1.1.1.1.1.1.1.1.0),
              (((λ q. tt), job_sync.shared x.5.now x.5.ref_ptr.0 x.5.ref_ptr.1 κs.1.1.1.1.1.1.1.1.1.1.1.1.1.0), tt),
            ),
          ),
        ),
      ),
    ),
    (λ q. tt),
  );
}
