-- Worked histories of a site.
use Rattle.std.specs.Prelude.{◌≡◌, ◌-◌, ◌*◌, [], ◌∷◌, Some, None, true, false, codes, replicate, pos}
use Rattle.pg_value.specs.Datum.{null, number, text, list, no_items, item}
use Rattle.pg_value.specs.declared.value.Value.TheVariants as variant
use Rattle.source_tree.specs.declared.edit.Edit.TheVariants as edit
use Rattle.edges.specs.declared.acted.Acted.TheVariants.{Did, Refused}
use Rattle.site_words.specs.declared.words.Opening.{Opening}
use Rattle.site_words.specs.declared.words.Op.TheVariants as op
use Rattle.site_words.specs.declared.words.Reply.TheVariants as reply
use Rattle.site_words.specs.declared.words.Refusal.TheVariants as refusal
use Rattle.site_words.specs.declared.words.AppStep.TheVariants as step
use Rattle.site_words.specs.declared.words.AppReply.TheVariants as answer
use Rattle.site_words.specs.State.{after}
use Rattle.site_words.specs.Law.{told, id}
use Rattle.site_words_tests.specs.Run.{run_all, unfit, seen}
use Rattle.site_words.specs.Fits.{asks}
use Rattle.site_words.specs.Weights.{weight_with}
use Rattle.site_words.specs.Sessions.{session_attrs}
use Rattle.site_words.specs.Opening.{is_sound}
use Rattle.site_words.specs.Ids.{id_of}

abbrev pub steps_of_two_passes_opening : Opening
steps_of_two_passes_opening = record { seed = (replicate 32 0); limit = 2147483648; passes = 2; idle = 1800; version = 0; begins = 0; freshes = 0; moment = 0; app = ([]); tree = ([]); sessions = ([]) }

-- two passes each read a name and set it, and one reads it again
abbrev pub StepsOfTwoPasses : Type 0
StepsOfTwoPasses =
    run_all steps_of_two_passes_opening ((0, (op.Begin [] 0))
    ∷ (1, (op.Begin [] 0))
    ∷ (0, (op.App 0 (step.Get (codes "n"))))
    ∷ (1, (op.App 1 (step.Get (codes "n"))))
    ∷ (0, (op.App 0 (step.Set (codes "n") (variant.Int (pos 1)))))
    ∷ (1, (op.App 1 (step.Set (codes "n") (variant.Int (pos 1)))))
    ∷ (1, (op.App 1 (step.Get (codes "n")))) ∷ [])
    ≡ (
      ((seen (Did (reply.Begun 0 0 None)))
          ∷ (seen (Did (reply.Begun 1 0 None)))
          ∷ (seen (Did (reply.App (answer.Value variant.Null))))
          ∷ (seen (Did (reply.App (answer.Value variant.Null))))
          ∷ (seen (Did (reply.App answer.Done)))
          ∷ (seen (Did (reply.App answer.Done)))
          ∷ (seen (Did (reply.App (answer.Value (variant.Int (pos 1)))))) ∷ []),
      record { tree = ([]); version = 0; app = (((codes "n"), (number (pos 1))) ∷ []); sessions = ([]); runs = ((Some (record { run = record { request = 0; version = 0; session = None; left = 4325110 }; tree = ([]) })) ∷ (Some (record { run = record { request = 1; version = 0; session = None; left = 4325013 }; tree = ([]) })) ∷ []); begins = 2; freshes = 0; moment = 0; ready = ([]); weight = 629 },
    )

abbrev pub sessions_opening : Opening
sessions_opening = record { seed = (replicate 32 0); limit = 2147483648; passes = 2; idle = 1800; version = 0; begins = 0; freshes = 0; moment = 0; app = ([]); tree = ([]); sessions = ([]) }

-- a session is made, kept, held by one request alone, and kept again; ids go with its number
abbrev pub Sessions : Type 0
Sessions =
    run_all sessions_opening ((0, (op.Begin [] 0))
    ∷ (0, (op.Fresh 0))
    ∷ (0, (op.End 0 (((codes "n"), (number (pos 1))) ∷ [])))
    ∷ (0, (op.Begin (codes "0000000000000000ade0b876903df1a0e56a5d4028bd8653") 0))
    ∷ (0, (op.End 1 (((codes "n"), (number (pos 2))) ∷ [])))
    ∷ (0, (op.Begin (codes "0000000000000000ade0b876903df1a0e56a5d4028bd8653") 0))
    ∷ (1, (op.Begin (codes "0000000000000000ade0b876903df1a0e56a5d4028bd8653") 0))
    ∷ (0, (op.End 2 (((codes "n"), (number (pos 3))) ∷ [])))
    ∷ (1, (op.Begin (codes "0000000000000000ade0b876903df1a0e56a5d4028bd8653") 0))
    ∷ (0, (op.Begin [] 0))
    ∷ (0, (op.Fresh 4))
    ∷ (0, (op.End 4 (((codes "n"), (number (pos 1))) ∷ [])))
    ∷ (1, (op.Abandon 3))
    ∷ (0, (op.Snapshot (codes "0000000000000001b819d2bd1aed8da0ccef36a8c70d778b"))) ∷ [])
    ≡ (
      ((seen (Did (reply.Begun 0 0 None)))
          ∷ (seen (Did (reply.Made 0)))
          ∷ (seen (Did reply.Ended))
          ∷ (seen (Did (reply.Begun 1 0 (Some 0))))
          ∷ (seen (Did reply.Ended))
          ∷ (seen (Did (reply.Begun 2 0 (Some 0))))
          ∷ (seen (Refused (refusal.Busy 2)))
          ∷ (seen (Did reply.Ended))
          ∷ (seen (Did (reply.Begun 3 0 (Some 0))))
          ∷ (seen (Did (reply.Begun 4 0 None)))
          ∷ (seen (Did (reply.Made 1)))
          ∷ (seen (Did reply.Ended))
          ∷ (seen (Did reply.Dropped))
          ∷ (seen (Did (reply.Snapped 0 (Some 1)))) ∷ []),
      record { tree = ([]); version = 0; app = ([]); sessions = ((record { number = 1; used = 0; attrs = (((codes "n"), (number (pos 1))) ∷ []) }) ∷ (record { number = 0; used = 0; attrs = (((codes "n"), (number (pos 3))) ∷ []) }) ∷ []); runs = (None ∷ None ∷ []); begins = 5; freshes = 2; moment = 0; ready = ([]); weight = 1316 },
    )

abbrev pub stale_base_opening : Opening
stale_base_opening = record { seed = (replicate 32 0); limit = 2147483648; passes = 1; idle = 1800; version = 3; begins = 0; freshes = 0; moment = 0; app = ([]); tree = ((record { path = (codes "/a"); text = (codes "a"); stamp = 2 }) ∷ []); sessions = ([]) }

-- a publishing on an older version is refused, and one on the latest is done
abbrev pub StaleBase : Type 0
StaleBase =
    run_all stale_base_opening ((0, (op.Publish (Some 2) ((edit.Put (codes "/a") (codes "b")) ∷ [])))
    ∷ (0, (op.Publish (Some 3) ((edit.Put (codes "/a") (codes "b")) ∷ []))) ∷ [])
    ≡ (
      ((seen (Refused (refusal.Stale 3)))
          ∷ (seen (Did (reply.Published 4 ([])))) ∷ []),
      record { tree = ((record { path = (codes "/a"); text = (codes "b"); stamp = 4 }) ∷ []); version = 4; app = ([]); sessions = ([]); runs = (None ∷ []); begins = 0; freshes = 0; moment = 0; ready = ([]); weight = 99 },
    )

abbrev pub no_room_opening : Opening
no_room_opening = record { seed = (replicate 32 0); limit = 4325375; passes = 2; idle = 1800; version = 0; begins = 0; freshes = 0; moment = 0; app = ([]); tree = ([]); sessions = ([]) }

-- a Begin is refused where the limit is one below its promise
abbrev pub NoRoom : Type 0
NoRoom =
    run_all no_room_opening ((0, (op.Begin [] 0)) ∷ [])
    ≡ (
      ((seen (Refused (refusal.JournalFull 0 0))) ∷ []),
      record { tree = ([]); version = 0; app = ([]); sessions = ([]); runs = (None ∷ None ∷ []); begins = 0; freshes = 0; moment = 0; ready = ([]); weight = 0 },
    )

abbrev pub room_for_one_opening : Opening
room_for_one_opening = record { seed = (replicate 32 0); limit = 4325376; passes = 2; idle = 1800; version = 0; begins = 0; freshes = 0; moment = 0; app = ([]); tree = ([]); sessions = ([]) }

-- a Begin is done where the limit is its promise, and the next one is refused
abbrev pub RoomForOne : Type 0
RoomForOne =
    run_all room_for_one_opening ((0, (op.Begin [] 0))
    ∷ (1, (op.Begin [] 0)) ∷ [])
    ≡ (
      ((seen (Did (reply.Begun 0 0 None)))
          ∷ (seen (Refused (refusal.JournalFull 80 4325296))) ∷ []),
      record { tree = ([]); version = 0; app = ([]); sessions = ([]); runs = ((Some (record { run = record { request = 0; version = 0; session = None; left = 4325296 }; tree = ([]) })) ∷ None ∷ []); begins = 1; freshes = 0; moment = 0; ready = ([]); weight = 80 },
    )

abbrev pub idle_sessions_opening : Opening
idle_sessions_opening = record { seed = (replicate 32 0); limit = 2147483648; passes = 1; idle = 1800; version = 0; begins = 0; freshes = 0; moment = 0; app = ([]); tree = ([]); sessions = ([]) }

-- a session is there after exactly the idle time, and has ended one second later
abbrev pub IdleSessions : Type 0
IdleSessions =
    run_all idle_sessions_opening ((0, (op.Begin [] 0))
    ∷ (0, (op.Fresh 0))
    ∷ (0, (op.End 0 (((codes "n"), (number (pos 1))) ∷ [])))
    ∷ (0, (op.Begin (codes "0000000000000000ade0b876903df1a0e56a5d4028bd8653") 1800))
    ∷ (0, (op.End 1 (((codes "n"), (number (pos 2))) ∷ [])))
    ∷ (0, (op.Begin (codes "0000000000000000ade0b876903df1a0e56a5d4028bd8653") 3601))
    ∷ (0, (op.Fresh 2))
    ∷ (0, (op.End 2 (((codes "n"), (number (pos 1))) ∷ []))) ∷ [])
    ≡ (
      ((seen (Did (reply.Begun 0 0 None)))
          ∷ (seen (Did (reply.Made 0)))
          ∷ (seen (Did reply.Ended))
          ∷ (seen (Did (reply.Begun 1 0 (Some 0))))
          ∷ (seen (Did reply.Ended))
          ∷ (seen (Did (reply.Begun 2 0 None)))
          ∷ (seen (Did (reply.Made 1)))
          ∷ (seen (Did reply.Ended)) ∷ []),
      record { tree = ([]); version = 0; app = ([]); sessions = ((record { number = 1; used = 3601; attrs = (((codes "n"), (number (pos 1))) ∷ []) }) ∷ []); runs = (None ∷ []); begins = 3; freshes = 2; moment = 3601; ready = ([]); weight = 803 },
    )

abbrev pub abandon_opening : Opening
abandon_opening = record { seed = (replicate 32 0); limit = 2147483648; passes = 2; idle = 3; version = 0; begins = 0; freshes = 0; moment = 0; app = ([]); tree = ([]); sessions = ([]) }

-- an abandoned request leaves its session as it was, and used now
abbrev pub Abandon : Type 0
Abandon =
    run_all abandon_opening ((0, (op.Begin [] 0))
    ∷ (0, (op.Fresh 0))
    ∷ (1, (op.Begin [] 9))
    ∷ (0, (op.Abandon 0))
    ∷ (0, (op.Begin (codes "0000000000000000ade0b876903df1a0e56a5d4028bd8653") 12))
    ∷ (0, (op.End 2 (((codes "n"), (number (pos 1))) ∷ [])))
    ∷ (0, (op.Begin (codes "0000000000000000ade0b876903df1a0e56a5d4028bd8653") 20)) ∷ [])
    ≡ (
      ((seen (Did (reply.Begun 0 0 None)))
          ∷ (seen (Did (reply.Made 0)))
          ∷ (seen (Did (reply.Begun 1 0 None)))
          ∷ (seen (Did reply.Dropped))
          ∷ (seen (Did (reply.Begun 2 0 (Some 0))))
          ∷ (seen (Did reply.Ended))
          ∷ (seen (Did (reply.Begun 3 0 None))) ∷ []),
      record { tree = ([]); version = 0; app = ([]); sessions = ([]); runs = ((Some (record { run = record { request = 3; version = 0; session = None; left = 4325248 }; tree = ([]) })) ∷ (Some (record { run = record { request = 1; version = 0; session = None; left = 4325296 }; tree = ([]) })) ∷ []); begins = 4; freshes = 1; moment = 20; ready = ([]); weight = 657 },
    )

abbrev pub older_requests_opening : Opening
older_requests_opening = record { seed = (replicate 32 0); limit = 2147483648; passes = 2; idle = 1800; version = 0; begins = 0; freshes = 0; moment = 0; app = ([]); tree = ((record { path = (codes "/a"); text = (codes "b"); stamp = 0 }) ∷ (record { path = (codes "/b"); text = []; stamp = 0 }) ∷ []); sessions = ([]) }

-- offers and fetches of requests whose trees are older than the latest
abbrev pub OlderRequests : Type 0
OlderRequests =
    run_all older_requests_opening ((0, (op.Begin [] 0))
    ∷ (0, (op.Publish None ((edit.Put (codes "/b") []) ∷ [])))
    ∷ (1, (op.Begin [] 0))
    ∷ (1, (op.Offer 1 (codes "/a")))
    ∷ (0, (op.Fetch 0 (codes "/a")))
    ∷ (1, (op.Fetch 1 (codes "/a")))
    ∷ (0, (op.Offer 0 (codes "/a")))
    ∷ (0, (op.Offer 0 (codes "/b")))
    ∷ (0, (op.Publish None ((edit.Put (codes "/b") []) ∷ [])))
    ∷ (1, (op.Fetch 1 (codes "/a")))
    ∷ (1, (op.Offer 1 (codes "/a"))) ∷ [])
    ≡ (
      ((seen (Did (reply.Begun 0 0 None)))
          ∷ (seen (Did (reply.Published 1 ([]))))
          ∷ (seen (Did (reply.Begun 1 1 None)))
          ∷ (seen (Did (reply.Offered true)))
          ∷ (seen (Did (reply.Fetched false)))
          ∷ (seen (Did (reply.Fetched true)))
          ∷ (seen (Did (reply.Offered false)))
          ∷ (seen (Did (reply.Offered false)))
          ∷ (seen (Did (reply.Published 2 ((codes "/a") ∷ []))))
          ∷ (seen (Did (reply.Fetched false)))
          ∷ (seen (Did (reply.Offered false))) ∷ []),
      record { tree = ((record { path = (codes "/a"); text = (codes "b"); stamp = 0 }) ∷ (record { path = (codes "/b"); text = []; stamp = 2 }) ∷ []); version = 2; app = ([]); sessions = ([]); runs = ((Some (record { run = record { request = 0; version = 0; session = None; left = 4325050 }; tree = ((record { path = (codes "/a"); text = (codes "b"); stamp = 0 }) ∷ (record { path = (codes "/b"); text = []; stamp = 0 }) ∷ []) })) ∷ (Some (record { run = record { request = 1; version = 1; session = None; left = 4324968 }; tree = ((record { path = (codes "/a"); text = (codes "b"); stamp = 0 }) ∷ (record { path = (codes "/b"); text = []; stamp = 1 }) ∷ []) })) ∷ []); begins = 2; freshes = 0; moment = 0; ready = ([]); weight = 948 },
    )

abbrev pub all_attributes_opening : Opening
all_attributes_opening = record { seed = (replicate 32 0); limit = 2147483648; passes = 1; idle = 1800; version = 0; begins = 0; freshes = 0; moment = 0; app = (((codes "a"), (number (pos 1))) ∷ ((codes "z"), (list (item (list (item (list (item (list (item (list (item (list (item (list (item (list (item (list (item (list (item (list (item (list (item (list (item (list (item (list (item (list (item (list (item (list (item (list (item (list (item (list (item (list (item (list (item (list (item (list (item (list (item (list (item (list (item (list (item (list (item (list (item (list (item (number (pos 1)) no_items)) no_items)) no_items)) no_items)) no_items)) no_items)) no_items)) no_items)) no_items)) no_items)) no_items)) no_items)) no_items)) no_items)) no_items)) no_items)) no_items)) no_items)) no_items)) no_items)) no_items)) no_items)) no_items)) no_items)) no_items)) no_items)) no_items)) no_items)) no_items)) no_items)) no_items)) no_items))) ∷ []); tree = ([]); sessions = ([]) }

-- all attributes are told while they keep the limits of a value, and else their weight
abbrev pub AllAttributes : Type 0
AllAttributes =
    run_all all_attributes_opening ((0, (op.Begin [] 0))
    ∷ (0, (op.App 0 step.All))
    ∷ (0, (op.App 0 (step.Remove (codes "z"))))
    ∷ (0, (op.App 0 step.All))
    ∷ (0, (op.App 0 (step.Ensure (codes "a") (variant.Int (pos 2)))))
    ∷ (0, (op.App 0 (step.Ensure (codes "b") variant.Null)))
    ∷ (0, (op.App 0 (step.Set (codes "c") variant.Null)))
    ∷ (0, (op.App 0 (step.Get (codes "b")))) ∷ [])
    ≡ (
      ((seen (Did (reply.Begun 0 0 None)))
          ∷ (seen (Did (reply.App (answer.Large 594))))
          ∷ (seen (Did (reply.App answer.Done)))
          ∷ (seen (Did (reply.App (answer.Value (variant.Rec (((codes "a"), (number (pos 1))) ∷ []))))))
          ∷ (seen (Did (reply.App (answer.Value (variant.Int (pos 1))))))
          ∷ (seen (Did (reply.App answer.Created))) ∷ unfit
          ∷ (seen (Did (reply.App (answer.Value variant.Null)))) ∷ []),
      record { tree = ([]); version = 0; app = (((codes "a"), (number (pos 1))) ∷ ((codes "b"), null) ∷ []); sessions = ([]); runs = ((Some (record { run = record { request = 0; version = 0; session = None; left = 4324747 }; tree = ([]) })) ∷ []); begins = 1; freshes = 0; moment = 0; ready = ([]); weight = 629 },
    )

abbrev pub pictures_opening : Opening
pictures_opening = record { seed = (replicate 32 0); limit = 2147483648; passes = 2; idle = 1; version = 0; begins = 0; freshes = 1; moment = 0; app = ([]); tree = ([]); sessions = ((record { number = 0; used = 0; attrs = (((codes "k"), (number (pos 1))) ∷ []) }) ∷ []) }

-- pictures show a held session whatever its age, and a free one until it has ended
abbrev pub Pictures : Type 0
Pictures =
    run_all pictures_opening ((0, (op.Begin (codes "0000000000000000ade0b876903df1a0e56a5d4028bd8653") 0))
    ∷ (1, (op.Begin [] 10))
    ∷ (1, (op.Snapshot (codes "0000000000000000ade0b876903df1a0e56a5d4028bd8653")))
    ∷ (0, (op.Abandon 0))
    ∷ (1, (op.End 1 ([])))
    ∷ (1, (op.Snapshot (codes "0000000000000000ade0b876903df1a0e56a5d4028bd8653")))
    ∷ (0, (op.Begin [] 12))
    ∷ (1, (op.Snapshot (codes "0000000000000000ade0b876903df1a0e56a5d4028bd8653")))
    ∷ (1, (op.Begin (codes "0000000000000000ade0b876903df1a0e56a5d4028bd8653") 0)) ∷ [])
    ≡ (
      ((seen (Did (reply.Begun 0 0 (Some 0))))
          ∷ (seen (Did (reply.Begun 1 0 None)))
          ∷ (seen (Did (reply.Snapped 0 (Some 0))))
          ∷ (seen (Did reply.Dropped))
          ∷ (seen (Did reply.Ended))
          ∷ (seen (Did (reply.Snapped 0 (Some 0))))
          ∷ (seen (Did (reply.Begun 2 0 None)))
          ∷ (seen (Did (reply.Snapped 0 None)))
          ∷ (seen (Did (reply.Begun 3 0 None))) ∷ []),
      record { tree = ([]); version = 0; app = ([]); sessions = ([]); runs = ((Some (record { run = record { request = 2; version = 0; session = None; left = 4325296 }; tree = ([]) })) ∷ (Some (record { run = record { request = 3; version = 0; session = None; left = 4325248 }; tree = ([]) })) ∷ []); begins = 4; freshes = 1; moment = 12; ready = ([]); weight = 944 },
    )

abbrev pub forty_reads_opening : Opening
forty_reads_opening = record { seed = (replicate 32 0); limit = 2147483648; passes = 1; idle = 1800; version = 0; begins = 0; freshes = 0; moment = 0; app = ([]); tree = ((record { path = (codes "/x.jsp"); text = []; stamp = 0 }) ∷ []); sessions = ([]) }

-- a request fetches, offers and reads forty times
abbrev pub FortyReads : Type 0
FortyReads =
    run_all forty_reads_opening ((0, (op.Begin [] 0))
    ∷ (0, (op.Fetch 0 (codes "/x.jsp")))
    ∷ (0, (op.Offer 0 (codes "/x.jsp")))
    ∷ (0, (op.App 0 (step.Get (codes "q"))))
    ∷ (0, (op.App 0 (step.Get (codes "q"))))
    ∷ (0, (op.App 0 (step.Get (codes "q"))))
    ∷ (0, (op.App 0 (step.Get (codes "q"))))
    ∷ (0, (op.App 0 (step.Get (codes "q"))))
    ∷ (0, (op.App 0 (step.Get (codes "q"))))
    ∷ (0, (op.App 0 (step.Get (codes "q"))))
    ∷ (0, (op.App 0 (step.Get (codes "q"))))
    ∷ (0, (op.App 0 (step.Get (codes "q"))))
    ∷ (0, (op.App 0 (step.Get (codes "q"))))
    ∷ (0, (op.App 0 (step.Get (codes "q"))))
    ∷ (0, (op.App 0 (step.Get (codes "q"))))
    ∷ (0, (op.App 0 (step.Get (codes "q"))))
    ∷ (0, (op.App 0 (step.Get (codes "q"))))
    ∷ (0, (op.App 0 (step.Get (codes "q"))))
    ∷ (0, (op.App 0 (step.Get (codes "q"))))
    ∷ (0, (op.App 0 (step.Get (codes "q"))))
    ∷ (0, (op.App 0 (step.Get (codes "q"))))
    ∷ (0, (op.App 0 (step.Get (codes "q"))))
    ∷ (0, (op.App 0 (step.Get (codes "q"))))
    ∷ (0, (op.App 0 (step.Get (codes "q"))))
    ∷ (0, (op.App 0 (step.Get (codes "q"))))
    ∷ (0, (op.App 0 (step.Get (codes "q"))))
    ∷ (0, (op.App 0 (step.Get (codes "q"))))
    ∷ (0, (op.App 0 (step.Get (codes "q"))))
    ∷ (0, (op.App 0 (step.Get (codes "q"))))
    ∷ (0, (op.App 0 (step.Get (codes "q"))))
    ∷ (0, (op.App 0 (step.Get (codes "q"))))
    ∷ (0, (op.App 0 (step.Get (codes "q"))))
    ∷ (0, (op.App 0 (step.Get (codes "q"))))
    ∷ (0, (op.App 0 (step.Get (codes "q"))))
    ∷ (0, (op.App 0 (step.Get (codes "q"))))
    ∷ (0, (op.App 0 (step.Get (codes "q"))))
    ∷ (0, (op.App 0 (step.Get (codes "q"))))
    ∷ (0, (op.App 0 (step.Get (codes "q"))))
    ∷ (0, (op.App 0 (step.Get (codes "q"))))
    ∷ (0, (op.App 0 (step.Get (codes "q"))))
    ∷ (0, (op.App 0 (step.Get (codes "q"))))
    ∷ (0, (op.App 0 (step.Get (codes "q"))))
    ∷ (0, (op.App 0 (step.Get (codes "q")))) ∷ [])
    ≡ (
      ((seen (Did (reply.Begun 0 0 None)))
          ∷ (seen (Did (reply.Fetched false)))
          ∷ (seen (Did (reply.Offered true)))
          ∷ (seen (Did (reply.App (answer.Value variant.Null))))
          ∷ (seen (Did (reply.App (answer.Value variant.Null))))
          ∷ (seen (Did (reply.App (answer.Value variant.Null))))
          ∷ (seen (Did (reply.App (answer.Value variant.Null))))
          ∷ (seen (Did (reply.App (answer.Value variant.Null))))
          ∷ (seen (Did (reply.App (answer.Value variant.Null))))
          ∷ (seen (Did (reply.App (answer.Value variant.Null))))
          ∷ (seen (Did (reply.App (answer.Value variant.Null))))
          ∷ (seen (Did (reply.App (answer.Value variant.Null))))
          ∷ (seen (Did (reply.App (answer.Value variant.Null))))
          ∷ (seen (Did (reply.App (answer.Value variant.Null))))
          ∷ (seen (Did (reply.App (answer.Value variant.Null))))
          ∷ (seen (Did (reply.App (answer.Value variant.Null))))
          ∷ (seen (Did (reply.App (answer.Value variant.Null))))
          ∷ (seen (Did (reply.App (answer.Value variant.Null))))
          ∷ (seen (Did (reply.App (answer.Value variant.Null))))
          ∷ (seen (Did (reply.App (answer.Value variant.Null))))
          ∷ (seen (Did (reply.App (answer.Value variant.Null))))
          ∷ (seen (Did (reply.App (answer.Value variant.Null))))
          ∷ (seen (Did (reply.App (answer.Value variant.Null))))
          ∷ (seen (Did (reply.App (answer.Value variant.Null))))
          ∷ (seen (Did (reply.App (answer.Value variant.Null))))
          ∷ (seen (Did (reply.App (answer.Value variant.Null))))
          ∷ (seen (Did (reply.App (answer.Value variant.Null))))
          ∷ (seen (Did (reply.App (answer.Value variant.Null))))
          ∷ (seen (Did (reply.App (answer.Value variant.Null))))
          ∷ (seen (Did (reply.App (answer.Value variant.Null))))
          ∷ (seen (Did (reply.App (answer.Value variant.Null))))
          ∷ (seen (Did (reply.App (answer.Value variant.Null))))
          ∷ (seen (Did (reply.App (answer.Value variant.Null))))
          ∷ (seen (Did (reply.App (answer.Value variant.Null))))
          ∷ (seen (Did (reply.App (answer.Value variant.Null))))
          ∷ (seen (Did (reply.App (answer.Value variant.Null))))
          ∷ (seen (Did (reply.App (answer.Value variant.Null))))
          ∷ (seen (Did (reply.App (answer.Value variant.Null))))
          ∷ (seen (Did (reply.App (answer.Value variant.Null))))
          ∷ (seen (Did (reply.App (answer.Value variant.Null))))
          ∷ (seen (Did (reply.App (answer.Value variant.Null))))
          ∷ (seen (Did (reply.App (answer.Value variant.Null))))
          ∷ (seen (Did (reply.App (answer.Value variant.Null)))) ∷ []),
      record { tree = ((record { path = (codes "/x.jsp"); text = []; stamp = 0 }) ∷ []); version = 0; app = ([]); sessions = ([]); runs = ((Some (record { run = record { request = 0; version = 0; session = None; left = 4321564 }; tree = ((record { path = (codes "/x.jsp"); text = []; stamp = 0 }) ∷ []) })) ∷ []); begins = 1; freshes = 0; moment = 0; ready = ((codes "/x.jsp") ∷ []); weight = 3812 },
    )

-- a read of an absent name of one byte weighs 89
abbrev pub ReadWeighs : Type 0
ReadWeighs =
    weight_with (op.App 0 (step.Get (codes "n"))) (reply.App (answer.Value variant.Null))
    ≡ 89

-- setting a number under a name of one byte weighs 97
abbrev pub SetWeighs : Type 0
SetWeighs =
    weight_with (op.App 0 (step.Set (codes "n") (variant.Int (pos 1)))) (reply.App answer.Done)
    ≡ 97

-- after 11,780 such reads one more fits the promise still
abbrev pub LastReadFits : Type 0
LastReadFits =
    asks (Some (record { request = 0; version = 0; session = None; left = 4325376 - 80 - 172 - 11780 * 89 })) (op.App 0 (step.Get (codes "q")))
    ≡ true

-- an opening of a later state is sound
abbrev pub OpeningIsSound : Type 0
OpeningIsSound =
    is_sound (record { seed = (replicate 32 255); limit = 2147483648; passes = 1; idle = 1800; version = 8; begins = 0; freshes = 1; moment = 0; app = (((codes "n"), (number (pos 1))) ∷ []); tree = ((record { path = (codes "/a"); text = []; stamp = 8 }) ∷ []); sessions = ((record { number = 0; used = 0; attrs = (((codes "n"), (number (pos 1))) ∷ []) }) ∷ []) })
    ≡ true

-- the attributes that an End writes are those of the session
abbrev pub AttributesAreKept : Type 0
AttributesAreKept =
    session_attrs (Some 0) (run_all sessions_opening ((0, (op.Begin [] 0))
    ∷ (0, (op.Fresh 0))
    ∷ (0, (op.End 0 (((codes "n"), (number (pos 1))) ∷ [])))
    ∷ (0, (op.Begin (codes "0000000000000000ade0b876903df1a0e56a5d4028bd8653") 0))
    ∷ (0, (op.End 1 (((codes "n"), (number (pos 2))) ∷ [])))
    ∷ (0, (op.Begin (codes "0000000000000000ade0b876903df1a0e56a5d4028bd8653") 0))
    ∷ (1, (op.Begin (codes "0000000000000000ade0b876903df1a0e56a5d4028bd8653") 0))
    ∷ (0, (op.End 2 (((codes "n"), (number (pos 3))) ∷ [])))
    ∷ (1, (op.Begin (codes "0000000000000000ade0b876903df1a0e56a5d4028bd8653") 0)) ∷ [])).1.sessions
    ≡ (((codes "n"), (number (pos 3))) ∷ [])

-- the first id of the seed that is all noughts
abbrev pub FirstId : Type 0
FirstId =
    id_of (replicate 32 0) 0
    ≡ (codes "0000000000000000ade0b876903df1a0e56a5d4028bd8653")

-- its second id
abbrev pub SecondId : Type 0
SecondId =
    id_of (replicate 32 0) 1
    ≡ (codes "0000000000000001b819d2bd1aed8da0ccef36a8c70d778b")

-- its third id
abbrev pub ThirdId : Type 0
ThirdId =
    id_of (replicate 32 0) 2
    ≡ (codes "00000000000000027c5941da8d4857513fe02477374ad8b8")

-- its eighth id
abbrev pub EighthId : Type 0
EighthId =
    id_of (replicate 32 0) 7
    ≡ (codes "0000000000000007281fed3145fb0a511f0ae1ac6f4d794b")
