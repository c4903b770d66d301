-- What a built-in site says, as the code has it. Assumes nothing: these are definitions.
use Rattle.std.specs.Prelude.{ℕ}
use Rattle.job.specs.Site.{BuiltinReply, gives, silent, later}
use Rattle.sites.specs.declared.site.BuiltInSite.{BuiltInSite}
use Rattle.sites.specs.declared.site.BuiltInSite.TheVariants as sites
use Rattle.sites.specs.declared.site.SiteReply.{SiteReply}
use Rattle.sites.specs.declared.site.SiteReply.TheVariants as replies

-- a built-in's number
abbrev pub site_number : BuiltInSite → ℕ
site_number sites.Let = 0
site_number sites.Ift = 1
site_number sites.Iff = 2
site_number sites.Signal = 3
site_number sites.Add = 4
site_number sites.Less = 5
site_number sites.Equal = 6
site_number sites.Rwait = 7

abbrev pub site_reply_of : BuiltinReply → SiteReply
site_reply_of (gives v) = replies.Gives v
site_reply_of silent = replies.Silent
site_reply_of (later t) = replies.Later t

abbrev pub builtin_reply_of : SiteReply → BuiltinReply
builtin_reply_of (replies.Gives v) = gives v
builtin_reply_of replies.Silent = silent
builtin_reply_of (replies.Later t) = later t
