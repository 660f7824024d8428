-- The functions library: the names of its functions, and how many arguments each takes.
use Rattle.std.specs.Prelude.{ℕ, List, Option, Some, None, codes, if◌then◌else◌}
use Rattle.std.specs.Str.{bytes_eq}
use Rattle.pg_value.specs.declared.function.Function.{Function}
use Rattle.pg_value.specs.declared.function.Function.TheVariants as function

-- the number of arguments of a function
abbrev pub arity_of : Function → ℕ
arity_of function.Contains = 2
arity_of function.ContainsIgnoreCase = 2
arity_of function.EndsWith = 2
arity_of function.StartsWith = 2
arity_of function.EscapeXml = 1
arity_of function.IndexOf = 2
arity_of function.Join = 2
arity_of function.Length = 1
arity_of function.Replace = 3
arity_of function.Split = 2
arity_of function.Substring = 3
arity_of function.SubstringAfter = 2
arity_of function.SubstringBefore = 2
arity_of function.ToLowerCase = 1
arity_of function.ToUpperCase = 1
arity_of function.Trim = 1

-- the function of this name, where there is one
abbrev pub function_named : List ℕ → Option Function
function_named name =
    if bytes_eq name (codes "contains") then Some function.Contains else (
    if bytes_eq name (codes "containsIgnoreCase") then Some function.ContainsIgnoreCase else (
    if bytes_eq name (codes "endsWith") then Some function.EndsWith else (
    if bytes_eq name (codes "startsWith") then Some function.StartsWith else (
    if bytes_eq name (codes "escapeXml") then Some function.EscapeXml else (
    if bytes_eq name (codes "indexOf") then Some function.IndexOf else (
    if bytes_eq name (codes "join") then Some function.Join else (
    if bytes_eq name (codes "length") then Some function.Length else (
    if bytes_eq name (codes "replace") then Some function.Replace else (
    if bytes_eq name (codes "split") then Some function.Split else (
    if bytes_eq name (codes "substring") then Some function.Substring else (
    if bytes_eq name (codes "substringAfter") then Some function.SubstringAfter else (
    if bytes_eq name (codes "substringBefore") then Some function.SubstringBefore else (
    if bytes_eq name (codes "toLowerCase") then Some function.ToLowerCase else (
    if bytes_eq name (codes "toUpperCase") then Some function.ToUpperCase else (
    if bytes_eq name (codes "trim") then Some function.Trim else (
    None))))))))))))))))
