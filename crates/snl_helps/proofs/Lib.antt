pub mod HelpLaws
