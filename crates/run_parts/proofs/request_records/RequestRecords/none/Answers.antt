use Rattle.run_parts.proofs.request_records.RequestRecords.none.Goals as goal

pub returns : goal.returns
returns c request params = record { params = c.none.ensures params; fields = record { header = tt; header_values = tt }; cookie = tt }
