-- Laws of the site call.
pub mod SiteCall
