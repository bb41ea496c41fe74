-- What the writer's functions promise to each other.
use Rattle.std.specs.Prelude.{◌%◌}
use Rattle.rules.specs.Records.{unsigned_of, Fields as Numbers, fields}
use Rattle.record.specs.declared.Fields.{Fields}

-- the fields as numbers, of the kind its low byte
abbrev pub low_kind : Fields → Numbers
low_kind f = fields (f.kind % 256) f.t.0 f.id (unsigned_of f.price.0) f.volume.0
