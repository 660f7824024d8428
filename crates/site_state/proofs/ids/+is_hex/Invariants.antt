use Rattle.site_state.proofs.ids.+is_hex.Given as goal

abbrev pub decreases-is_hex : goal.decreases-is_hex
decreases-is_hex l = l.count
