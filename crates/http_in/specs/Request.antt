-- What a request is, by its head and its body.
use Rattle.std.specs.Prelude.{ℕ, List}
use Rattle.http_in.specs.declared.fields.Field.{Field}
use Rattle.http_in.specs.declared.request.Request.{Request}
use Rattle.http_in.specs.Cookie.{session_of}
use Rattle.http_in.specs.Fields.{asks_to_close}
use Rattle.http_in.specs.Params.{params_of}
use Rattle.http_in.specs.Target.{path_of, query_of}

-- the request of this method, target, fields and body
unfoldable pub request_of : List ℕ → List ℕ → List Field → List ℕ → Request
request_of method target fields body = record {
  method = method;
  target = target;
  path = path_of target;
  query = query_of target;
  fields = fields;
  params = params_of method target fields body;
  cookie = session_of fields;
  body = body;
  close = asks_to_close fields;
}
