-- Laws, which rest on the definitions of specs/
pub mod SettingLaws
